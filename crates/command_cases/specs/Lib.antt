pub mod Case
pub mod Changes
pub mod Commute
pub mod Replies
pub mod Shapes
pub mod TextPlan
