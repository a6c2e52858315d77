-- Why solving in whole runs is right.
pub mod Even
pub mod Spans
pub mod Turn
pub mod Stages
pub mod Steps
pub mod Runs
pub mod Taking
pub mod Tile
pub mod Buffers
