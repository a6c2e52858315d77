-- What a list of ids must be.
pub mod Ids
