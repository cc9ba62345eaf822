pub mod Answering
pub mod Entries
pub mod Filling
pub mod Mapped
pub mod ReadBack
pub mod Sharing
