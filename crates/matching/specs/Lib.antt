-- Letters that are the same.
pub mod Same
