pub mod States
pub mod Covering
pub mod Registers
pub mod Following
