-- Laws of runs that are added.
pub mod Added
pub mod Apart
