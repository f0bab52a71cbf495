pub mod Edges
pub mod ListedLaws
