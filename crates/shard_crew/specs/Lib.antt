pub mod Promises
pub mod Rooms
