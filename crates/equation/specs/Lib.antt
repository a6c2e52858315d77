-- What a system is handed as: rows of shifts, and when each of its ranks begins.
pub mod Rows
pub mod Delays
