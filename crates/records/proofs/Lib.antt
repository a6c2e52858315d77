-- The laws of the records of a share, and of numbers as bytes.
pub mod NumberBytes
pub mod Places
pub mod RangeBytes
