pub mod Lists
pub mod Yielding
pub mod Layers
pub mod TakeLaws
pub mod Asking
pub mod RunLaws
pub mod SerialLaws
pub mod Order
