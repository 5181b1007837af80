pub mod Geometry
pub mod Write
pub mod Direct
