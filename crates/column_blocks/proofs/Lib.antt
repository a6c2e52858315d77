-- Why an entry loses what it loses, in one pass.
pub mod Blocks
