pub mod Answer
pub mod NodeLaws
