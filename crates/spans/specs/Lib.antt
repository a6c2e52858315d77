-- What a run reads from before its tile.
pub mod Steps
