-- One rank after another, compared.
pub mod Noting
