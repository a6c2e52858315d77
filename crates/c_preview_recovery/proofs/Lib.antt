-- The one outcome of the exported recovery of previews, and the promise about it.
pub mod Outcomes
pub mod Promises
