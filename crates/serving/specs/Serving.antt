-- A session over the disk of some settings.
use Rattle.std.specs.Prelude.{◌≡◌, ◌≤◌, ◌⊎◌, ℕ, Bool, List, Option, Some, None, length, ⊤}
use Rattle.std.specs.List.{concat}
use Rattle.ntstatus.specs.declared.NtStatus.TheVariants.{InsufficientResources as NoResources, MediaWriteProtected, NoSuchDevice, DeletePending}
use Rattle.io_manager.specs.declared.Refusal.TheVariants.{InvalidParameter, InsufficientResources}
use Rattle.settings.specs.declared.Config.{Config}
use Rattle.settings.specs.Medium.{extents_of, zeros}
use Rattle.startup.specs.declared.faults.Error.TheVariants.{Start}
use Rattle.startup.specs.Reading.{AreRead, HasFault, IsUnread}
use Rattle.startup.specs.Started.{IsStackFault}
use Rattle.volume.specs.declared.OpenFault.{OpenFault}
use Rattle.volume.specs.declared.OpenFault.TheVariants.{Start as NotStarted, Refused}
use Rattle.volume.specs.declared.Error.{Error as VolumeFault}
use Rattle.volume.specs.declared.Error.TheVariants.{Refused as RefusedCall, Failed as FailedCall}
use Rattle.volume.specs.Shown.{Content as VolumeContent, extent_at}
use Rattle.nbd.specs.Content.{Content}
use Rattle.nbd.specs.Carrying.{Faulting}
use Rattle.nbd.specs.declared.arrays.ArrayFault.{ArrayFault}
use Rattle.nbd.specs.declared.arrays.ArrayFault.TheVariants.{NoMemory as OutOfMemory, Protected, Gone, Failed as FailedArray}
use Rattle.nbd.specs.Handshake.{IsSession}
use Rattle.nbd.specs.declared.End.{End}
use Rattle.nbd.specs.declared.End.TheVariants.{Left, Malformed as NoProtocol, Input, Output}
use Rattle.serving.specs.declared.faults.Error.{Error}
use Rattle.serving.specs.declared.faults.Error.TheVariants.{Startup, NoPartition, Malformed, InputEnded, OutputFailed, NoMemory}

-- the bytes of a partition as an array, in blocks of a sector, that clients may be told not to write
abbrev pub array_of : VolumeContent → Bool → Content
array_of c read_only = record { block = c.sector_size; bytes = c.bytes; read_only = read_only }

-- the array may fail by any fault, and then hold any bytes
abbrev pub may_fail : Faulting
may_fail old new fault = ⊤

-- the fault of the array by which a failed call of the volume is told
abbrev pub told_fault : VolumeFault → ArrayFault
told_fault (RefusedCall InsufficientResources) = OutOfMemory
told_fault (RefusedCall _) = FailedArray
told_fault (FailedCall NoResources) = OutOfMemory
told_fault (FailedCall MediaWriteProtected) = Protected
told_fault (FailedCall NoSuchDevice) = Gone
told_fault (FailedCall DeletePending) = Gone
told_fault (FailedCall _) = FailedArray

-- the array of a partition of these settings before anything was written: zeros. Clients are told of write protection
abbrev pub new_array : Config → ℕ → Content
new_array c p = record {
  block = c.sector_size;
  bytes = concat (zeros c (extent_at (extents_of c) p).count);
  read_only = c.write_protected;
}

-- the fault by which an end of the session is told
abbrev pub fault_of_end : End → Option Error
fault_of_end Left = None
fault_of_end NoProtocol = Some Malformed
fault_of_end Input = Some InputEnded
fault_of_end Output = Some OutputFailed

-- the fault by which a volume that can't be opened is told
abbrev pub fault_of_open : OpenFault → Error
fault_of_open (NotStarted fault) = Startup (Start fault)
fault_of_open (Refused InvalidParameter) = NoPartition
fault_of_open (Refused _) = NoMemory

-- why there is no disk of these settings, or no partition of this number on it
abbrev pub IsStartFault : Config → ℕ → Error → Type 0
IsStartFault c p (Startup (Start fault)) = IsStackFault c fault
IsStartFault c p NoPartition = length (extents_of c) ≤ p
IsStartFault c p NoMemory = Unit {0}
IsStartFault c p _ = ⊥

-- why an input gives no settings
abbrev pub IsConfigFault : Option (List ℕ) → Error → Type 0
IsConfigFault config (Startup fault) = IsUnread fault × HasFault config fault
IsConfigFault config _ = ⊥

-- why no session began
abbrev pub IsEarly : Option (List ℕ) → ℕ → Error → Type 0
IsEarly config p fault = IsConfigFault config fault ⊎ ((settings : Config) × AreRead config settings × IsStartFault settings p fault)

-- no session began: nothing was read or written
pub record HasNone (config : Option (List ℕ)) (p : ℕ) (input out : Option (List ℕ)) (told : Option Error) (rest after : Option (List ℕ)) : Type 0 where
  pub fault : Error
  pub told_is : told ≡ Some fault
  pub early : IsEarly config p fault
  pub unread : rest ≡ input
  pub unwritten : after ≡ out

-- a session took place, over the partition as the settings make it
pub record HasSession (config : Option (List ℕ)) (p : ℕ) (input out : Option (List ℕ)) (told : Option Error) (after : Option (List ℕ)) : Type 0 where
  pub settings : Config
  pub are_read : AreRead config settings
  pub end : End
  pub told_is : told ≡ fault_of_end end
  pub last : Content
  pub session : IsSession may_fail (new_array settings p) input out end last after

-- what was read and written, and what is told at the end
abbrev pub IsServed : Option (List ℕ) → ℕ → Option (List ℕ) → Option (List ℕ) → Option Error → Option (List ℕ) → Option (List ℕ) → Type 0
IsServed config p input out told rest after = HasNone config p input out told rest after ⊎ HasSession config p input out told after
