-- The search for the first byte that can't stand.
pub mod Steps
