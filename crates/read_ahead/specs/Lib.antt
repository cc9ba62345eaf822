pub mod Standing
pub mod inside
