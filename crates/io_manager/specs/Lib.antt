pub mod Shown
pub mod Calls
pub mod Right
pub mod Opening
pub mod inside
