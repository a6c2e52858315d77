-- What is counted of a run, and that it is the terms.
pub mod Taken
