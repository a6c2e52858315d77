-- Tables by rank, and which ranks still go on.
pub mod ByRank
