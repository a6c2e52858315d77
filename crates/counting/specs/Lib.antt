-- What the calls that count have between two statements.
pub mod Steps
