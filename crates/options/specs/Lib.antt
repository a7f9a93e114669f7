pub mod CommandLine
pub mod OptionRows
pub mod Picture
pub mod Refusals
pub mod Replay
pub mod Server
