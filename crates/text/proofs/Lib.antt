-- A number in decimal, and text after text.
pub mod Decimals
pub mod Putting
