pub mod BatchWords
