pub mod Check
pub mod RunLaws
