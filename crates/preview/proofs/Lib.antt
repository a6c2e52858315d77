-- The promises about calls.
pub mod Promises
