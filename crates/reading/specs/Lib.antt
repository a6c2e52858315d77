-- What reading promises.
pub mod Reading
