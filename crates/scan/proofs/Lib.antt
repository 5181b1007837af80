pub mod Scan
pub mod Loops
pub mod Zeros
pub mod Same
