-- The laws of sums, places and runs, which every crate above cites.
pub mod Cases
pub mod Sums
pub mod Places
pub mod Runs
pub mod Laying
pub mod Carried
pub mod Rests
