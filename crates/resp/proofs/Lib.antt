pub mod Bulks
pub mod BulksRead
pub mod Contents
pub mod Sizes
pub mod Texts
mod Rows
