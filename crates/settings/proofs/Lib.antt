mod FirstFault
mod FoundLists
mod Keys
mod NewDisk
mod SettingFaults
mod UsedPartitions
mod WholeSectors
mod Zipped
