pub mod Bits
pub mod Cells
pub mod Left
pub mod Lowest
