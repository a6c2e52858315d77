-- The one outcome of the exported recovery and repair, and the promise about recovery.
pub mod Outcomes
pub mod Promises
