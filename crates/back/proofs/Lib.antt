pub mod Executed
pub mod Behind
pub mod Keeping
pub mod Fitting
