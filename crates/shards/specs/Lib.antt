pub mod Joined
pub mod Layer
pub mod Laws
pub mod Rows
pub mod Spans
