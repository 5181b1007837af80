pub mod Session
pub mod Feeding
pub mod Steps
