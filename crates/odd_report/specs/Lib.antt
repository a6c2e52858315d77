-- How each of sixteen nodes stands.
pub mod Standings
pub mod Steps
