-- What C is answered.
use Rattle.std.specs.Prelude.{◌≡◌, ◌⊎◌, ℕ, List, Err, MatchBool, nat_eq}
use Rattle.ntstatus.specs.Codes.{value_of}
use Rattle.ntstatus.specs.declared.NtStatus.TheVariants.{Success}
use Rattle.machine.specs.declared.ClientRequest.{ClientRequest}
use Rattle.io_manager.specs.declared.Refusal.TheVariants.{InsufficientResources}
use Rattle.volume.specs.declared.Error.{Error}
use Rattle.volume.specs.declared.Error.TheVariants.{Refused}
use Rattle.volume.specs.Calls.{AreInBounds, IsAnswered, IsFault, IsSameDisk, IsToldAsAnswered, IsWriteFault as IsVolumeWriteFault, WasSent}
use Rattle.volume.specs.Shown.{Content, VolumeView}
use Rattle.volume.specs.Sparse.{AreSectors, IsRun}
use Rattle.saddlemug.specs.declared.volume_calls.DiskRun.{DiskRun}
use Rattle.saddlemug.specs.Statuses.{fault_status}

-- this is the number of the status of a fault of this kind
pub record IsNumberOf (IsWhy : Error → Type 0) (number : ℕ) : Type 0 where
  pub fault : Error
  pub why : IsWhy fault
  pub is_number : number ≡ value_of (fault_status fault)

-- a read of this many bytes from this one on was refused or failed, or memory for its bytes was refused
abbrev pub IsReadFault : VolumeView → ℕ → ℕ → Error → Type 0
IsReadFault v offset count fault = (fault ≡ Refused InsufficientResources) ⊎ IsFault v (AreInBounds v.content offset count) fault

-- a write was refused or failed, and left what a volume's write leaves; or memory for its bytes was refused, and
-- nothing changed
abbrev pub IsWriteFault : VolumeView → ℕ → List ℕ → Error → VolumeView → Type 0
IsWriteFault old offset bytes fault new = ((fault ≡ Refused InsufficientResources) × IsSameDisk old new) ⊎ IsVolumeWriteFault old offset bytes fault new

-- a request ended with a fault of this kind: it was sent, and its one answer has the fault's status; or it was refused,
-- and not sent
pub record EndsWith (old : VolumeView) (q : ClientRequest) (IsWhy : Error → Type 0) (new : VolumeView) (fault : Error) : Type 0 where
  pub why : IsWhy fault
  pub answered : IsToldAsAnswered {X = Unit {0}} old q (Err fault) new
  pub sent : WasSent old new fault

-- 0 is told of a request that was answered with SUCCESS, and of any other the number of the status of the fault with
-- which it ended
abbrev pub IsToldNumber : VolumeView → ClientRequest → (Error → Type 0) → VolumeView → ℕ → Type 0
IsToldNumber old q IsWhy new number = MatchBool (nat_eq number 0) (IsAnswered old q Success new) (IsNumberOf (EndsWith old q IsWhy new) number)

-- bytes that are alike, as the volume knows them; none just where these are no whole sectors of the partition
abbrev pub TellsRun : Content → ℕ → ℕ → DiskRun → Type 0
TellsRun c offset count told =
    MatchBool (nat_eq told.count 0) (¬ (AreSectors c offset count)) (IsRun c offset count (record { count = told.count; are_zeros = told.are_zeros }))
