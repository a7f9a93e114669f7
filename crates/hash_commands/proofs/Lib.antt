pub mod Leaves
pub mod Local
pub mod Replies
pub mod Short
