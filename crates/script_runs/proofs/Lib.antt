mod Blaming
mod Written
