-- The statuses that say why a call did not succeed.
use Rattle.std.specs.Prelude.{◌≡◌, ℕ}
use Rattle.ntstatus.specs.Codes.{value_of}
use Rattle.ntstatus.specs.declared.NtStatus.{NtStatus}
use Rattle.ntstatus.specs.declared.NtStatus.TheVariants as status
use Rattle.io_manager.specs.declared.Refusal.{Refusal}
use Rattle.io_manager.specs.declared.Refusal.TheVariants.{InvalidHandle, InvalidParameter, DeletePending, DeviceBusy, InsufficientResources, InvalidDeviceRequest, NotFound}
use Rattle.compose.specs.declared.StartFault.{StartFault}
use Rattle.compose.specs.declared.StartFault.TheVariants.{Device, Settings, Mbr, NoMemory}
use Rattle.volume.specs.declared.Error.{Error}
use Rattle.volume.specs.declared.Error.TheVariants.{Refused, Failed}
use Rattle.volume.specs.declared.OpenFault.{OpenFault}
use Rattle.volume.specs.declared.OpenFault.TheVariants.{Start, Refused as RefusedOpen}

-- the status of a refusal, which has its name
abbrev pub refusal_status : Refusal → NtStatus
refusal_status InvalidHandle = status.InvalidHandle
refusal_status InvalidParameter = status.InvalidParameter
refusal_status DeletePending = status.DeletePending
refusal_status DeviceBusy = status.DeviceBusy
refusal_status InsufficientResources = status.InsufficientResources
refusal_status InvalidDeviceRequest = status.InvalidDeviceRequest
refusal_status NotFound = status.NotFound

-- the status of a request that did not succeed
abbrev pub fault_status : Error → NtStatus
fault_status (Refused reason) = refusal_status reason
fault_status (Failed s) = s

-- the status of a start that failed
abbrev pub start_status : StartFault → NtStatus
start_status (Device s) = s
start_status NoMemory = status.InsufficientResources
start_status Settings = status.InvalidParameter
start_status (Mbr fault) = status.InvalidParameter

-- the status of a volume that could not be opened
abbrev pub open_status : OpenFault → NtStatus
open_status (Start fault) = start_status fault
open_status (RefusedOpen reason) = refusal_status reason

-- this is the number of a status of this kind
pub record IsNumberOfStatus (IsWhy : NtStatus → Type 0) (number : ℕ) : Type 0 where
  pub status : NtStatus
  pub why : IsWhy status
  pub is_number : number ≡ value_of status
