-- Delays of small shifts, and when rows of shifts can be solved.
pub mod Delays
pub mod Ruled
