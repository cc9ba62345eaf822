pub mod Decoding
pub mod Joining
pub mod Filling
pub mod Mending
pub mod Answering
pub mod Showing
pub mod Finding
