pub mod Schedules
pub mod Worked
