-- Calls one after another: what demand 3's promises speak of.
pub mod Reading
pub mod Repairing
pub mod Chain
