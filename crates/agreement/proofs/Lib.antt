-- The laws of agreement.
pub mod Handed
pub mod Choices
pub mod FirstWrong
pub mod Comparing
pub mod Trying
pub mod Theorems
