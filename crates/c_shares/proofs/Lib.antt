-- How shares are told to C, their one outcome, and the promises about them.
pub mod Told
pub mod Judged
pub mod Outcomes
pub mod Promises
