pub mod Bytes
pub mod Claims
