pub mod Freeing
pub mod Reading
