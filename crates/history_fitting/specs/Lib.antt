pub mod Services
pub mod Opened
pub mod Laws
