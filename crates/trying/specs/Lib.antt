-- What a search among the nodes finds.
pub mod Searched
