-- A column of entries laid down as a packet.
pub mod Columns
