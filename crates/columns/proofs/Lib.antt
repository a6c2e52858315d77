-- Why each entry loses what it loses.
pub mod Entries
