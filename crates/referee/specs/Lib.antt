pub mod Numbers
pub mod Opening
pub mod Taking
pub mod Telling
