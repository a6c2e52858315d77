-- What functions leave between two statements: for contracts of inner functions alone.
pub mod Windows
pub mod MovedRuns
pub mod Rows
