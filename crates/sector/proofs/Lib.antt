pub mod Splicing
mod WholeSectors
