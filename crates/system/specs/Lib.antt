-- The system that recovery and repair solve, the order in which its letters come out, and its cost.
pub mod System
pub mod Order
pub mod Count
