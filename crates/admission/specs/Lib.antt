pub mod Freeing
pub mod Tables
