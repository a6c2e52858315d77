-- Letters of a buffer with earlier ones added.
pub mod Added
