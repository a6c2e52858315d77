-- What the exported calls on a state promise: those that start it and take bytes into it, and the questions about it.
pub mod Arrivals
pub mod SoFar
