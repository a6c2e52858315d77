-- What comparing nodes with a file finds.
pub mod Steps
