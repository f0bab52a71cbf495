pub mod Rows
pub mod LineLaws
