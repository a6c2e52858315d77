-- Where the search stands between two bytes, and where it stops in bytes that come after others.
pub mod Walk
pub mod Joining
