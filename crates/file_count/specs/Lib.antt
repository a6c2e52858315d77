-- What the count of a recovery has between two statements.
pub mod Steps
