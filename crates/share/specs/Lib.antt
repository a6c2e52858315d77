-- What the calls promise.
pub mod Calls
