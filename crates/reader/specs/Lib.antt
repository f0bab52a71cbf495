pub mod Answer
pub mod ReaderLaws
