pub mod Flight
pub mod Moving
pub mod Order
