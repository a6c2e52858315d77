-- Laws, and why the functions keep their contracts.
pub mod ChosenIds
pub mod ChosenRanks
pub mod Columns
pub mod CostSums
pub mod EntryStarts
pub mod Files
pub mod Linear
pub mod OneAfterAnother
pub mod Product
pub mod Reading
pub mod Rebuilt
pub mod SomeFile
pub mod Theorems
pub mod Carried
