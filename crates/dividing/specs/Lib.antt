-- Running sums of letters.
pub mod Running
pub mod Steps
