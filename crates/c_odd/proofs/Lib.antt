-- Why the call for C keeps its contract, and that it has one outcome.
pub mod Numbers
pub mod Names
pub mod Outcomes
