-- The solving fact: at most one solution, and at least one; and what solving costs.
pub mod Cost
pub mod OneSolution
pub mod Order
pub mod Settles
pub mod SomeSolution
pub mod System
pub mod Terms
pub mod Within
