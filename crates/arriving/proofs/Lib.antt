-- Which bytes lead to a state, and what is told from it.
pub mod GoodBytes
pub mod Led
pub mod Taking
pub mod Telling
pub mod PastHead
pub mod Meaning
pub mod Outcomes
