mod Prefixes
mod Working
