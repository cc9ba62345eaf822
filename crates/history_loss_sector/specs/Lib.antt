pub mod Seen
pub mod Numbers
pub mod inside
