-- What a share is over any layout of its head, and what any bytes are.
pub mod Layout
pub mod Share
pub mod Judgment
pub mod Laws
pub mod Steps
