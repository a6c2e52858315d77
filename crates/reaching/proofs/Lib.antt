-- Which bytes stand behind a state's numbers.
pub mod BytesBehind
pub mod Stepping
pub mod Near
