pub mod World
pub mod Steps
