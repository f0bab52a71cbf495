pub mod Good
pub mod Arrays
pub mod ArrayLaws
pub mod Begins
pub mod GoodLaws
pub mod BeginLaws
pub mod StepGood
