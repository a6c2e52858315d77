-- Calls one after another: what demand 3's promises about previews speak of.
pub mod Reading
