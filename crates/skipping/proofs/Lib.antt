-- Why what is passed over stands.
pub mod SteppedOver
