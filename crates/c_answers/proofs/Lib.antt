-- How an answer is told to C, and that each export has one outcome.
pub mod Told
pub mod Outcomes
pub mod Stores
