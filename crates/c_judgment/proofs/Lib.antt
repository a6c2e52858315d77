-- How a judgment is told to C, and that it is told in one way.
pub mod Told
pub mod Outcomes
