-- Why reading keeps its contract, and that it has one outcome.
pub mod Verdicts
pub mod Outcomes
