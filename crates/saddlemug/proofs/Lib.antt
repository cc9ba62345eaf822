mod Booked
mod Failing
mod Faulty
mod Filling
mod InRange
mod FirstOver
mod Padding
mod Standing
mod Texts
mod TooLong
pub mod Values
