pub mod Known
pub mod Fresh
