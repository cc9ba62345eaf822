pub mod Bookable
pub mod Booked
pub mod Carried
pub mod Counting
pub mod Covered
pub mod Kept
pub mod Reserved
pub mod SizeClasses
mod Common
