pub mod Gets
pub mod Entries
pub mod Changes
pub mod Parts
pub mod Counts
