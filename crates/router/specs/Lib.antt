pub mod Connection
pub mod Finishing
pub mod Lists
pub mod Router
pub mod Submitting
