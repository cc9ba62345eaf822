pub mod Entered
pub mod Booked
pub mod Telling
pub mod Within
pub mod Beginning
pub mod Taking
pub mod Numbering
pub mod Rooming
pub mod Keeping
mod Common
