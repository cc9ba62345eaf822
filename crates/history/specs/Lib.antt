pub mod Sights
pub mod Refusing
pub mod Waits
pub mod Gaps
pub mod Filling
