pub mod Answer
pub mod ReasonLaws
