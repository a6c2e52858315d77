-- How a run is added from its last letters down.
pub mod Downward
