pub mod Entries
pub mod StepLaws
