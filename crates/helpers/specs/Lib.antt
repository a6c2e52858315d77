-- What a helper sends.
pub mod Calls
