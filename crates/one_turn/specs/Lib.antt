-- The tables of a system, the runs of a tile, and its turns.
pub mod Tables
pub mod Steps
