-- How nodes stand, by how many are wrong.
pub mod Standings
