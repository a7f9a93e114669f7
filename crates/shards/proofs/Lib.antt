pub mod Joins
pub mod Spans
pub mod Steps
pub mod MapUnions
pub mod Rows
pub mod Layers
pub mod Works
pub mod Runs
pub mod PutBack
pub mod Empty
mod Lent
pub mod Unions
pub mod Sizes
