mod Apps
mod Files
mod Flags
mod Names
