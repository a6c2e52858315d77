-- Which rows of a column have letters.
pub mod Steps
