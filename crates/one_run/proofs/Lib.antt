-- The laws of one run that another is added to, or that is summed up.
pub mod OneRun
