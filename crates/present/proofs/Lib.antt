-- How many nodes are present, which, and how many letters they hold.
pub mod Present
