pub mod Listing
pub mod Changing
pub mod Serving
pub mod Following
pub mod Searching
