-- What is passed over of a share's records.
pub mod Steps
