-- What an addition is worth.
pub mod Worth
pub mod Steps
