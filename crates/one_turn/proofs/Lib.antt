-- The laws of a tile's tables, its runs and its turns.
pub mod Tables
pub mod Runs
pub mod Turns
