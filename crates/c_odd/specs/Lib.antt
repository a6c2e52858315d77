-- Which node is lying, for C.
pub mod Odd
