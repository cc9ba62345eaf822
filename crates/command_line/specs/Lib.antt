pub mod Asking
pub mod Grammar
