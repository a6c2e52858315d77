-- A share from its parts.
pub mod FromParts
