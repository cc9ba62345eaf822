pub mod Opening
pub mod Shown
pub mod inside
