pub mod Graphs
pub mod GraphLaws
