pub mod Joining
pub mod Performing
pub mod Booked
pub mod BookedActs
pub mod Handed
pub mod Tagged
