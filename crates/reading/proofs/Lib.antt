pub mod Admitted
pub mod Slots
pub mod Stored
