mod FirstSector
mod Joined
mod OverDisk
