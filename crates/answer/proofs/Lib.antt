pub mod Coded
pub mod Admission
