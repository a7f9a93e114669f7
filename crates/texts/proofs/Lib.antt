pub mod Lists
pub mod Paired
