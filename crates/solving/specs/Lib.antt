-- The solver's contract.
pub mod Solver
pub mod Steps
