-- What later columns put into an entry.
pub mod Steps
