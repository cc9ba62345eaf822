pub mod Judging
mod Changing
