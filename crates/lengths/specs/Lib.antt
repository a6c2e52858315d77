-- Every length, by name.
pub mod Lengths
