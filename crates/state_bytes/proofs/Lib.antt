pub mod Encoding
pub mod InPlace
pub mod Inverse
pub mod OnBytes
pub mod Zeros
