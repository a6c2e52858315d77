-- A group, what it may be, and what a refused call answers.
pub mod Answers
pub mod Ranges
