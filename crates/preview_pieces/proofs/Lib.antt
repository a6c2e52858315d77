-- What the checks of pieces of previews let through, and that the empty part means refused.
pub mod Called
pub mod Handing
