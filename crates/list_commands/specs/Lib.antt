pub mod ListCommand
