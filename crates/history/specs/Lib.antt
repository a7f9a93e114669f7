pub mod Names
pub mod Pens
pub mod Orders
