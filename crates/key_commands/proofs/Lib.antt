pub mod Local
pub mod Short
