-- What the later columns put into a column, taken out of it.
pub mod Steps
