pub mod Each
pub mod Sending
