-- Sums of several runs of one buffer.
pub mod Sums
