mod Absent
mod Refused
mod Tables
