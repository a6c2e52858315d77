-- What taking out leaves.
pub mod Taken
pub mod Steps
