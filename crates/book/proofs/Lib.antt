pub mod Beginning
pub mod Booked
pub mod Failures
pub mod Following
pub mod Going
pub mod Keeping
pub mod Noted
pub mod Numbered
pub mod Reserved
pub mod Same
pub mod Settled
pub mod Staying
pub mod Stepping
pub mod Taking
pub mod Telling
mod Common
