pub mod Answers
pub mod NumberLaws
pub mod ItemLaws
pub mod ListLaws
pub mod OperandLaws
pub mod FileLaws
