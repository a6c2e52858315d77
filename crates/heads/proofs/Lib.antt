-- The heads are lawful, and what that means for their bytes.
pub mod HeadLaws
pub mod HeadBytes
pub mod FirstBytes
pub mod Answers
