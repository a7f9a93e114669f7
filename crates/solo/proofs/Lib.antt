pub mod Clients
pub mod Served
pub mod Turns
