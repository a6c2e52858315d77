-- The laws of the code of previews.
pub mod Theorems
pub mod Linear
pub mod Carried
pub mod Ranks
