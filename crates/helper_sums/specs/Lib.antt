-- What is summed for a lost node.
pub mod Steps
