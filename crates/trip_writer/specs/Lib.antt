pub mod Spelling
pub mod Joining
