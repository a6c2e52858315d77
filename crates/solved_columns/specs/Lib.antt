-- A file solved column by column.
pub mod Steps
