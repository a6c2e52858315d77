-- The rounds of a system.
pub mod Steps
