-- Laws, and why the functions keep their contracts.
pub mod CarriedRuns
pub mod Charted
pub mod ChosenIds
pub mod FirstRuns
pub mod LinearRuns
pub mod Lists
pub mod MovedRuns
pub mod Parts
pub mod PartsOfBytes
pub mod PutBack
pub mod SeenRuns
pub mod Sequences
pub mod Summing
