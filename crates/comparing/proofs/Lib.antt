-- Laws of comparing.
pub mod Packets
