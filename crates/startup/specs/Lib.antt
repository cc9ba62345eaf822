pub mod Ending
pub mod Input
pub mod Reading
pub mod Started
pub mod Texts
