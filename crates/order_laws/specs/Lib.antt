pub mod Layers
pub mod Takes
pub mod Runs
pub mod Truth
