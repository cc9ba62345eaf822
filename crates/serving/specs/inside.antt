pub mod Busy
pub mod Dues
pub mod Doors
pub mod Engines
pub mod First
pub mod Since
