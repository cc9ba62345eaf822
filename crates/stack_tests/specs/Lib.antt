pub mod Reluctance
