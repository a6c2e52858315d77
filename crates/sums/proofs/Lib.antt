-- The laws of sums of several runs.
pub mod Filled
pub mod Sums
