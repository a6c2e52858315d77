-- The code of previews.
pub mod Preview
