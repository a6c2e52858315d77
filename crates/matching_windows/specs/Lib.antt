-- The letters that are seen through a window.
pub mod Windows
