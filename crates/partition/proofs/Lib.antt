pub mod Noted
pub mod Steps
pub mod Alike
pub mod Calls
pub mod Marking
pub mod Settled
pub mod Moving
pub mod Rooms
pub mod Hand
pub mod Submitting
pub mod Handing
pub mod Taken
mod Common
