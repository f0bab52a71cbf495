pub mod Answer
pub mod OperandLaws
