-- The promise about the exported encoding of previews.
pub mod Told
pub mod Promises
