pub mod Results
pub mod Wants
