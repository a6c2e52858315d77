-- Text in a line.
pub mod Text
