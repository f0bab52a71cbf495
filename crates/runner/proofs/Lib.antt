pub mod Bytes
pub mod Turns
pub mod Starts
