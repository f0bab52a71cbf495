pub mod Numerals
pub mod Answer
pub mod NumeralLaws
pub mod ValueLaws
