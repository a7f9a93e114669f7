pub mod HashCommand
pub mod SetAnswer
