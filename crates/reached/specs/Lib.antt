pub mod Reached
pub mod ReachedLaws
pub mod SearchLaws
