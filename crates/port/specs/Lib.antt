pub mod Opening
pub mod Over
pub mod Shown
pub mod inside
