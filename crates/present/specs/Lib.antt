-- Nodes that are present.
pub mod Steps
