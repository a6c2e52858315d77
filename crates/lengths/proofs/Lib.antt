-- How long each is at most.
pub mod Sizes
