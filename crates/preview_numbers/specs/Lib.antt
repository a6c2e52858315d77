-- A group of previews: its ranges, its refusals and its lengths.
pub mod Previews
