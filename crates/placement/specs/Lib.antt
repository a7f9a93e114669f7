pub mod Document
pub mod Groups
pub mod Layout
pub mod Owners
pub mod Slot
