-- Laws of letters that are the same.
pub mod HowFar
