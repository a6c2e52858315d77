-- What a node sends for a recovery.
pub mod Calls
