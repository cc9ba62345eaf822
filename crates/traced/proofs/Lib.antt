pub mod Arming
pub mod Noting
pub mod Finding
pub mod Telling
pub mod Booking
pub mod Looking
pub mod FromRight
pub mod Clients
mod Common
