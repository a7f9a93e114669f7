pub mod DocumentLemmas
pub mod Claiming
pub mod Owning
pub mod Addressed
pub mod Walked
