-- What a node of previews sends.
pub mod Calls
