pub mod Groups
pub mod Queues
pub mod Losing
pub mod Passing
pub mod Exchange
