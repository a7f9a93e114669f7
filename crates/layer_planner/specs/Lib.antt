pub mod Layers
pub mod Seen
pub mod Units
pub mod Firsts
pub mod Nexts
pub mod Parts
