pub mod Calls
pub mod Performing
pub mod View
pub mod Booking
