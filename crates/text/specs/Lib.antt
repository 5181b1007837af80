pub mod Ascii
pub mod Marks
pub mod Runs
pub mod Decimal
