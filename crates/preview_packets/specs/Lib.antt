-- What a node of previews holds.
pub mod Calls
pub mod Steps
