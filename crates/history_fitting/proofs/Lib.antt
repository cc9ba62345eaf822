mod Bounds
pub mod Opening
pub mod Sizes
