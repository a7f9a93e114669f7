pub mod Names
pub mod Views
pub mod Codes
pub mod LongRows
pub mod TraceText
pub mod TraceReading
pub mod Laws
