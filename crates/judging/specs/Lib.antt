-- What bytes are judged to be.
pub mod Judging
pub mod Steps
