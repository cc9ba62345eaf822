mod Called
mod Quiet
mod Opening
mod Spelled
mod Flags
mod Sessions
mod AsSessions
pub mod Lasting
pub mod Steady
pub mod Undone
pub mod Writing
pub mod Carrying
pub mod Putting
pub mod Beginning
pub mod Filing
pub mod Failing
pub mod Noting
mod Booking
mod Newest
mod Siding
mod Requesting
mod Dealing
pub mod Engines
mod Lending
mod Growing
mod Ending
mod Reading
mod Slots
pub mod Since
pub mod Whole
mod Common
mod Asking
mod Rounds
mod Keeping
mod Meanwhile
mod Series
