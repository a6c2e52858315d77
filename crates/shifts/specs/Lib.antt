-- Shifts: how far a node moves a column.
pub mod Rule
pub mod Table
