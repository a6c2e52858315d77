-- A table's rule, and the laws of shift rules.
pub mod Rule
pub mod Tested
