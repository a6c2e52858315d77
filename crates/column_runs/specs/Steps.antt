-- What functions leave between two statements: for contracts of inner functions alone.
pub mod Runs
