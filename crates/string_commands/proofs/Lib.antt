pub mod Leaves
pub mod Led
pub mod Local
pub mod ManyKeys
pub mod Short
