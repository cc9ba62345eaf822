pub mod Turning
pub mod Hearing
pub mod Scheduling
pub mod Explaining
