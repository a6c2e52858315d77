-- A column is solved where it lies, and the columns one after another.
pub mod SolveColumn
pub mod Stages
