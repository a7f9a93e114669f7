pub mod Came
pub mod Keeping
pub mod Turns
