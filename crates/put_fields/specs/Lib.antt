pub mod DigitLaws
pub mod Args
pub mod ArgLaws
