-- What is gathered of the present nodes.
pub mod Steps
