-- Which node is lying.
pub mod Calls
