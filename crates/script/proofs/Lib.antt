mod Answered
mod Asked
mod Cuts
mod Digits
mod Parted
pub mod Playing
pub mod Printed
mod PrintedLabels
mod Reading
mod RefusedCalls
mod Rising
mod Spelled
mod Trims
mod Zipped
mod Common
