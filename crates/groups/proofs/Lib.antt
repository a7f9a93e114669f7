pub mod Ids
pub mod Lists
pub mod Options
pub mod Stamps
