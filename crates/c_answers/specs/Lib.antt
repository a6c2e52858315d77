-- What the exports for C return and leave.
pub mod Exports
