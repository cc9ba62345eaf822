mod Acts
mod Beside
mod Blaming
