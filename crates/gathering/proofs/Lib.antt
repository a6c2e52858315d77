-- Why what is gathered is what it should be.
pub mod KeptIds
pub mod Gathering
