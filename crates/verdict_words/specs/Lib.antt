-- The words and numbers of the judge's line.
pub mod Words
