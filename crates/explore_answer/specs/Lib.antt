pub mod Rows
pub mod Ready
