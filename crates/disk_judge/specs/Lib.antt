pub mod Disks
pub mod inside
