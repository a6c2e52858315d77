-- How a byte is refused that can't stand where it is.
pub mod Steps
