pub mod States
pub mod Covering
pub mod Following
