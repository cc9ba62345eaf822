pub mod Busy
pub mod Explaining
pub mod Passing
pub mod Listing
pub mod Starting
