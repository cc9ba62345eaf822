pub mod History
pub mod Schedules
pub mod Fitting
pub mod Laws
pub mod Widening
