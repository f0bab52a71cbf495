pub mod Answer
pub mod LineLaws
