pub mod Answers
pub mod Serves
pub mod Sent
pub mod Gathers
