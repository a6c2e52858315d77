-- Letters, their sums, and runs of them.
pub mod Algebra
pub mod Places
pub mod Runs
pub mod Laid
pub mod Lanes
pub mod Steps
