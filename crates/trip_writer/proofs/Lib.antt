pub mod Pieces
pub mod Joining
pub mod Answers
