pub mod Tables
pub mod Serial
pub mod Stores
pub mod Runs
pub mod Rans
