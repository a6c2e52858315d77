-- That the night-desk examples hold.
pub mod Twelve
