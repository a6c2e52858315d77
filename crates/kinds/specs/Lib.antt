-- The kinds of head that a share may have.
pub mod Kinds
pub mod Steps
