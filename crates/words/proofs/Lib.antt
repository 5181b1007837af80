pub mod Lanes
pub mod Values
pub mod Texts
