pub mod Combination
pub mod Lent
pub mod SetCommand
