-- What the search tells, and that there is one judgment.
pub mod WouldStand
pub mod Verdicts
pub mod Outcomes
