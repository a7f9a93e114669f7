pub mod Hasher
pub mod Places
