pub mod Shown
pub mod Opening
pub mod Acting
pub mod Right
pub mod Told
