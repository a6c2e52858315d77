-- How a state is told to C, and what is asked of it, and the one outcome of each call.
pub mod Told
pub mod Outcomes
pub mod ToldSoFar
pub mod OutcomesSoFar
