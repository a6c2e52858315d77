-- The night-desk examples.
pub mod Examples
