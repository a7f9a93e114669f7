pub mod Ascii
pub mod Bulks
pub mod Content
pub mod LongText
pub mod Names
pub mod Text
