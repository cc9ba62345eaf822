mod Listing
mod Changing
mod Inserting
mod Growing
mod Judging
mod Checking
mod Watching
