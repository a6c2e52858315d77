-- What the exported recovery of previews promises.
pub mod Previews
