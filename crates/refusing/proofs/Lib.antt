-- How a byte is refused, by its place.
pub mod Places
