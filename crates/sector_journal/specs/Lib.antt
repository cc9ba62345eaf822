pub mod Arming
pub mod Entering
pub mod Journal
pub mod Reserving
pub mod Slots
pub mod Pooling
pub mod inside
