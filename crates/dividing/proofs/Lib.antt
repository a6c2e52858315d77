-- The laws of running sums.
pub mod Running
