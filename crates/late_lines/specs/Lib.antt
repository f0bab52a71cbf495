pub mod Places
pub mod Walks
pub mod Steps
