pub mod LedgerSending
pub mod Crossing
