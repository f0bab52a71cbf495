pub mod Answer
pub mod WordLaws
