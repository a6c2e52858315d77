-- What the checks of pieces let through, and that the empty part means refused.
pub mod Called
pub mod Handing
