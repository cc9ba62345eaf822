pub mod Schedules
pub mod Values
