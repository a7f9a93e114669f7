pub mod WholeNames
pub mod Zips
pub mod Turns
