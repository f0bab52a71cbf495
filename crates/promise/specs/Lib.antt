pub mod History
pub mod Demand3
pub mod Explored
