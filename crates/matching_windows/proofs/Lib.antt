-- A window in three parts: its first letters, its middle, its last.
pub mod Parts
