-- What the checks of previews tell, and how long each is at most.
pub mod InRange
pub mod Sizes
