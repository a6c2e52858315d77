-- Why a run reads these letters.
pub mod Reading
