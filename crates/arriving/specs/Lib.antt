-- The state that bytes lead to, and what the calls over it promise.
pub mod States
pub mod Calls
pub mod Steps
