-- Why the solver keeps its contract.
pub mod Outcome
pub mod Tiles
