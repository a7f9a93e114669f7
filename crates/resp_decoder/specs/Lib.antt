pub mod Texts
pub mod Parts
pub mod Parsing
pub mod Advancing
pub mod Decoding
pub mod Laws
pub mod FaultText
pub mod Pieces
