-- Why a search keeps its contract.
pub mod Attempts
pub mod Searching
