pub mod OnDisk
pub mod Shown
pub mod Opening
pub mod inside
