pub mod Late
pub mod Walks
pub mod Steps
