pub mod Words
pub mod Standing
pub mod Order
pub mod Together
