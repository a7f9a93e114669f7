pub mod Control
pub mod Member
pub mod Replies
pub mod Session
