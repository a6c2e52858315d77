-- Two arrays are one state only if all their numbers are the same.
pub mod Words
