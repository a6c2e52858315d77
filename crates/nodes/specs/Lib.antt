-- What a node holds.
pub mod Calls
