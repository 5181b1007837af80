pub mod Trip
pub mod List
pub mod Lines
pub mod Lookup
pub mod Steps
pub mod Scanner
pub mod Entries
pub mod Walk
