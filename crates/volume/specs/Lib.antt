pub mod Shown
pub mod Ready
pub mod Calls
pub mod Working
pub mod Opening
pub mod Sparse
pub mod inside
