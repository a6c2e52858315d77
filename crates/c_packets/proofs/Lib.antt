-- The promise about the exported encoding.
pub mod Promises
