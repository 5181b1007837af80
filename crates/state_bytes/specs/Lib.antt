pub mod Encoding
pub mod InPlace
pub mod Moments
pub mod Inverse
