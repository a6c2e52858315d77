-- The laws of shares, from those of their layout.
pub mod LaidOut
pub mod Stands
pub mod Accepted
pub mod Completing
pub mod Judgments
pub mod Entries
