-- Runs and lists one after another, sums of moved sequences, and what the functions on them leave.
pub mod Lists
pub mod Moved
pub mod Parts
pub mod Chosen
pub mod Steps
