pub mod Stops
pub mod Tosses
pub mod TossLaws
