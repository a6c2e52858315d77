-- Laws of the checks and of the answers.
pub mod Refusals
pub mod InRange
pub mod Outcomes
pub mod Called
