pub mod Leaves
pub mod Arcs
