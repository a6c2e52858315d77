-- Why the call keeps its contract, and that it has one outcome.
pub mod Telling
pub mod Outcomes
pub mod Promises
