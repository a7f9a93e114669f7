pub mod Entries
pub mod Laws
pub mod Rows
pub mod Serial
