pub mod Geometry
pub mod Write
pub mod Moments
pub mod Direct
