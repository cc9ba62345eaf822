mod Answering
mod Gathering
mod Viewing
mod Once
