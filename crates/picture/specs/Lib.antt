pub mod Words
pub mod Run
pub mod Flights
pub mod Arrivals
pub mod Layers
pub mod Notes
pub mod Ran
pub mod Told
