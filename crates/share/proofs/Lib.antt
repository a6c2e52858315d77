-- The laws of the calls.
pub mod Chosen
pub mod Written
pub mod Outcomes
pub mod RoundTrip
