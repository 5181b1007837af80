pub mod Admitted
pub mod Arrays
pub mod Puts
pub mod Tails
