-- What the proofs of the judge's line share.
pub mod Telling
pub mod Outcomes
pub mod Example
