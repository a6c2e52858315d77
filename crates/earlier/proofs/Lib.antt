-- Why what a tile reads from before it is taken out of its runs.
pub mod Pair
pub mod Taking
