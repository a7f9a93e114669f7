pub mod Changed
pub mod Local
pub mod Apart
pub mod Beside
pub mod Items
pub mod Leaves
pub mod Short
pub mod Shapes
