-- What each label of a history must be, whatever the sectors hold: calls count and carry their bytes, what is refused is answered at
-- once, and answers are to open calls and of their sizes.
use Rattle.std.specs.Prelude.{ℕ, ◌-◌, ◌==◌, ◌&&◌, Bool, true, false, not, List, [], ◌∷◌, ◌++◌, Option, Some, None, length, is_none, slice_get, slice_set, if◌then◌else◌}
use Rattle.ntstatus.specs.declared.NtStatus.{NtStatus}
use Rattle.ntstatus.specs.declared.NtStatus.TheVariants.{Success, DeviceBusy, InvalidHandle, InvalidParameter, NoSuchDevice, InvalidDeviceRequest, NonexistentSector, DeviceDataError, MediaWriteProtected, DeviceNotReady, Cancelled, IoDeviceError}
use Rattle.ntstatus.specs.Codes.{value_of}
use Rattle.ntstatus.specs.First.{when, first_some}
use Rattle.srb.specs.declared.Kind.{Kind}
use Rattle.srb.specs.declared.Kind.TheVariants.{Read, Write, Flush}
use Rattle.machine.specs.declared.ClientRequest.{ClientRequest}
use Rattle.machine.specs.declared.Label.{Label}
use Rattle.machine.specs.declared.Label.TheVariants.{Call, Answer}
use Rattle.machine.specs.Rules.{Rules, is_transfer, is_in_bounds}
use Rattle.machine.specs.Calling.{bytes_carried}
use Rattle.history_laws.specs.declared.Asked.{Asked}

-- what a call is answered at once, if anything
abbrev pub refused : Rules → ClientRequest → Option NtStatus
refused rules q = first_some (
    when (is_none q.partition) InvalidHandle
    ∷ when (is_transfer q.kind && not (is_in_bounds rules q)) InvalidParameter
    ∷ when (is_transfer q.kind && (q.length == 0)) Success
    ∷ [])

-- how a request that isn't refused may fail
abbrev pub is_failure : NtStatus → Bool
is_failure Cancelled = true
is_failure DeviceBusy = true
is_failure InvalidDeviceRequest = true
is_failure NoSuchDevice = true
is_failure DeviceNotReady = true
is_failure DeviceDataError = true
is_failure NonexistentSector = true
is_failure MediaWriteProtected = true
is_failure IoDeviceError = true
is_failure _ = false

abbrev pub asked_of : ClientRequest → Asked
asked_of q = record { kind = q.kind; length = q.length }

-- the bytes that come with a call
abbrev pub carried : Option NtStatus → ClientRequest → ℕ
carried None q = bytes_carried q.kind q.length
carried (Some status) q = 0

-- the number of bytes that a success tells, and of those that it brings
abbrev pub informed_of : Asked → ℕ
informed_of asked = if is_transfer asked.kind then asked.length else 0

abbrev pub brought : Kind → ℕ → ℕ
brought Read length' = length'
brought Write length' = 0
brought Flush length' = 0

-- an open request may be answered so, with so many bytes
abbrev pub ends : Asked → NtStatus → ℕ → ℕ → Bool
ends asked Success informed count = (informed == informed_of asked) && (count == brought asked.kind asked.length)
ends asked status informed count = is_failure status && ((informed == 0) && (count == 0))

abbrev pub ends_open : Option (Option Asked) → NtStatus → ℕ → ℕ → Bool
ends_open (Some (Some asked)) status informed count = ends asked status informed count
ends_open (Some None) status informed count = false
ends_open None status informed count = false

-- a refused call is answered by this status, and no bytes
abbrev pub ends_refused : List (Option Asked) → ℕ → NtStatus → ℕ → ℕ → NtStatus → Bool
ends_refused asked number status informed count owed =
    (number == length asked - 1) && ((value_of status == value_of owed) && ((informed == 0) && (count == 0)))

abbrev pub ends_by : List (Option Asked) → Option NtStatus → ℕ → NtStatus → ℕ → ℕ → Bool
ends_by asked None number status informed count = ends_open (slice_get asked number) status informed count
ends_by asked (Some owed) number status informed count = ends_refused asked number status informed count owed

-- the label may come: of each number so far it is known what was asked, while it is open, and of the last what answer it is owed if it was refused
abbrev pub fits : Rules → List (Option Asked) → Option NtStatus → Label → Bool
fits rules asked owed (Call number q) = is_none owed && ((number == length asked) && (length q.bytes == carried (refused rules q) q))
fits rules asked owed (Answer number status informed bytes) = ends_by asked owed number status informed (length bytes)
fits rules asked owed _ = true

-- what is known behind it
abbrev pub entry_of : Option NtStatus → ClientRequest → Option Asked
entry_of None q = Some (asked_of q)
entry_of (Some status) q = None

abbrev pub without : List (Option Asked) → Option NtStatus → ℕ → List (Option Asked)
without asked None number = slice_set asked number None
without asked (Some status) number = asked

abbrev pub asked_after : Rules → List (Option Asked) → Option NtStatus → Label → List (Option Asked)
asked_after rules asked owed (Call number q) = asked ++ entry_of (refused rules q) q ∷ []
asked_after rules asked owed (Answer number status informed bytes) = without asked owed number
asked_after rules asked owed _ = asked

abbrev pub owed_after : Rules → Option NtStatus → Label → Option NtStatus
owed_after rules owed (Call number q) = refused rules q
owed_after rules owed (Answer number status informed bytes) = None
owed_after rules owed _ = owed

-- each label may come behind those before it
abbrev pub all_fit : Rules → List (Option Asked) → Option NtStatus → List Label → Bool
all_fit rules asked owed [] = true
all_fit rules asked owed (label ∷ labels) =
    if fits rules asked owed label then all_fit rules (asked_after rules asked owed label) (owed_after rules owed label) labels else false

-- from the start on: no call has the number 0
abbrev pub all_fit_at_first : Rules → List Label → Bool
all_fit_at_first rules labels = all_fit rules (None ∷ []) None labels
