pub mod Finding
pub mod Keyed
pub mod RowHeads
pub mod Tells
