-- The records of a share that follow its head.
pub mod Records
pub mod Steps
