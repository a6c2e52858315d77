-- Which numbers bytes lead to.
pub mod Numbers
pub mod Steps
