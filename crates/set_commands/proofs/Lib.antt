pub mod Leaves
pub mod Apart
pub mod Found
pub mod Kept
pub mod Local
pub mod Short
