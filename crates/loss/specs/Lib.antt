pub mod Held
pub mod Moved
pub mod Sessions
pub mod Laws
pub mod Worked
