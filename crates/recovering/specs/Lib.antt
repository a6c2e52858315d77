-- The file from k nodes.
pub mod Calls
pub mod Steps
