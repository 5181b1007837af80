pub mod Interface
pub mod Linked
