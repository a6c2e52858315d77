-- The judge's line.
pub mod Line
