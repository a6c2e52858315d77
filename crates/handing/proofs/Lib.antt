-- What a part that is handed back tells.
pub mod Handed
