-- A share's letters in its blocks.
pub mod Steps
