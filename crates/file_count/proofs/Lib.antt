-- The terms of a recovery, entry by entry, are those of document 01's two sums.
pub mod ColumnTerms
