-- The laws of the table's rows, and what it means that numbers are in their ranges.
pub mod RowLaws
