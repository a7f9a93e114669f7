pub mod Rows
pub mod Rooms
pub mod Backs
pub mod Runs
