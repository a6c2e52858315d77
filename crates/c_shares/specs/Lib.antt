-- What the exported calls on shares promise.
pub mod Shares
