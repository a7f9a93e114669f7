pub mod Lends
pub mod Map
pub mod Plain
