pub mod Leaves
pub mod Local
pub mod Apart
pub mod ListItems
pub mod Short
