pub mod Asks
pub mod Closings
pub mod Desks
pub mod Hands
pub mod LongWork
pub mod Streams
pub mod Turning
