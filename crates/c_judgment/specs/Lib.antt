-- How a head and a judgment are told to C.
pub mod Judgments
