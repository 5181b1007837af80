pub mod Grammar
pub mod Request
pub mod Reply
pub mod Parser
