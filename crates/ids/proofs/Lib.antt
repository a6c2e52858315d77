-- Laws of lists of ids.
pub mod Ids
