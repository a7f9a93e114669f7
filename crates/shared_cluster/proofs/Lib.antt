pub mod Refusals
pub mod Collecting
pub mod Taking
pub mod Hands
pub mod Crossing
