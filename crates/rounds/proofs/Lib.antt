mod Counting
mod Missing
mod Removing
