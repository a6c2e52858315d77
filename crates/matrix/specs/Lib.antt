-- The matrix, packets, pieces, repair and counts of document 01 (docs/SCHEME.md, 3 to 8).
pub mod Matrix
pub mod Pieces
pub mod Repair
pub mod Counts
pub mod Chain
pub mod Steps
