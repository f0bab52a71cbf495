pub mod ClosedLaws
pub mod CloseLaws
pub mod PrintLaws
