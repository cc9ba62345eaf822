pub mod Lists
pub mod Tags
pub mod Sizing
pub mod Opening
pub mod Starting
pub mod Orderly
pub mod Submitting
pub mod Rooms
pub mod Returning
pub mod Handing
pub mod Acting
pub mod Codes
pub mod Turning
pub mod Resetting
pub mod Searching
pub mod Draining
pub mod Marking
pub mod Fresh
pub mod Queued
pub mod Spots
pub mod Booking
mod Places
mod Spoiling
mod Sound
mod Seeing
mod MayAct
