pub mod Sights
pub mod Refusing
