-- What the refusals say.
pub mod Refusing
