pub mod Freeing
pub mod Indices
pub mod Pass
pub mod Soundness
