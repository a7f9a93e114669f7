pub mod Codes
pub mod CodeLaws
pub mod Packed
pub mod Lists
