-- The heads that a share may have.
pub mod Heads
pub mod Steps
