-- A file of previews from k nodes.
pub mod Calls
pub mod Steps
