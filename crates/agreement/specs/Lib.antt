-- Whether nodes agree.
pub mod Agreement
pub mod Steps
