pub mod Histories
pub mod Schedules
pub mod Laws
pub mod Widening
pub mod Worked
