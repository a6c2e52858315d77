-- A state as nine numbers.
pub mod Words
