-- Why an entry loses what it loses, run by run.
pub mod Growing
pub mod Moving
pub mod Pulling
