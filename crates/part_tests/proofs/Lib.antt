pub mod Below
pub mod Known
pub mod Opened
pub mod Reserved
