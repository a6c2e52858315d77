-- What a turn does to one run.
pub mod Steps
