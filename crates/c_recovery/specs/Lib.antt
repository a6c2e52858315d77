-- What the exported recovery and repair promise.
pub mod Recovery
