pub mod Grammar
pub mod Spelling
pub mod Reply
