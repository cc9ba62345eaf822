pub mod Exchanging
pub mod Missing
pub mod Reading
