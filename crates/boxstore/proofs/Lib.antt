pub mod Counts
pub mod Replies
pub mod Linked
pub mod Trips
