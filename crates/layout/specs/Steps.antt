-- What the code goes by between two statements: no reader has to believe these.
pub mod Stands
