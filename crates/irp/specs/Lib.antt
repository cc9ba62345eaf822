pub mod Climb
pub mod Functions
pub mod Packet
