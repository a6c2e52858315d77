-- The laws of worth.
pub mod Worth
mod Counted
