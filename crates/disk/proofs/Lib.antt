mod Chunked
pub mod Cutting
pub mod Laws
mod Looking
mod Overwriting
mod Reserving
mod Shown
mod SparseShown
