pub mod Answer
pub mod FieldLaws
