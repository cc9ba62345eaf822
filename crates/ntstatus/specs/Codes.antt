-- The number of each status code, and the name that it is printed by.
use Rattle.std.specs.Prelude.{ℕ, List, codes}
use Rattle.ntstatus.specs.declared.NtStatus.{NtStatus}
use Rattle.ntstatus.specs.declared.NtStatus.TheVariants.{Success, Pending, DeviceBusy, InvalidHandle, InvalidParameter, NoSuchDevice, InvalidDeviceRequest, NonexistentSector, MoreProcessingRequired, DeletePending, InsufficientResources, DeviceDataError, MediaWriteProtected, DeviceNotReady, Cancelled, IoDeviceError, NotFound}

-- the 32 bits that Windows gives the status
abbrev pub value_of : NtStatus → ℕ
value_of Success = 0x00000000
value_of Pending = 0x00000103
value_of DeviceBusy = 0x80000011
value_of InvalidHandle = 0xC0000008
value_of InvalidParameter = 0xC000000D
value_of NoSuchDevice = 0xC000000E
value_of InvalidDeviceRequest = 0xC0000010
value_of NonexistentSector = 0xC0000015
value_of MoreProcessingRequired = 0xC0000016
value_of DeletePending = 0xC0000056
value_of InsufficientResources = 0xC000009A
value_of DeviceDataError = 0xC000009C
value_of MediaWriteProtected = 0xC00000A2
value_of DeviceNotReady = 0xC00000A3
value_of Cancelled = 0xC0000120
value_of IoDeviceError = 0xC0000185
value_of NotFound = 0xC0000225

-- its name without the prefix STATUS_
abbrev pub name_of : NtStatus → List ℕ
name_of Success = codes "SUCCESS"
name_of Pending = codes "PENDING"
name_of DeviceBusy = codes "DEVICE_BUSY"
name_of InvalidHandle = codes "INVALID_HANDLE"
name_of InvalidParameter = codes "INVALID_PARAMETER"
name_of NoSuchDevice = codes "NO_SUCH_DEVICE"
name_of InvalidDeviceRequest = codes "INVALID_DEVICE_REQUEST"
name_of NonexistentSector = codes "NONEXISTENT_SECTOR"
name_of MoreProcessingRequired = codes "MORE_PROCESSING_REQUIRED"
name_of DeletePending = codes "DELETE_PENDING"
name_of InsufficientResources = codes "INSUFFICIENT_RESOURCES"
name_of DeviceDataError = codes "DEVICE_DATA_ERROR"
name_of MediaWriteProtected = codes "MEDIA_WRITE_PROTECTED"
name_of DeviceNotReady = codes "DEVICE_NOT_READY"
name_of Cancelled = codes "CANCELLED"
name_of IoDeviceError = codes "IO_DEVICE_ERROR"
name_of NotFound = codes "NOT_FOUND"
