-- A part of what a caller lent.
pub mod Parts
