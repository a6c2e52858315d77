-- When the question which node is lying is refused.
pub mod Refusals
