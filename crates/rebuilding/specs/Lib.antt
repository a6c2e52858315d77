-- A lost node from d others.
pub mod Calls
pub mod Steps
