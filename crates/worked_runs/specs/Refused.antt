-- Calls that are answered at once, and why.
use Rattle.std.specs.Prelude.{true, [], ◌∷◌, Some, None}
use Rattle.ntstatus.specs.declared.NtStatus.TheVariants.{Success, DeviceBusy, DeletePending, InvalidHandle, InvalidParameter}
use Rattle.machine.specs.declared.ClientRequest.{ClientRequest}
use Rattle.machine.specs.declared.Label.TheVariants.{Call, Answer, Pause, Remove, Removed}
use Rattle.machine.specs.Rules.{Rules}
use Rattle.machine.specs.State.{Untouched, opening}
use Rattle.machine.specs.Step.{Run}
use Rattle.worked_runs.specs.Small.{small, zeros, idle, opened, read}

-- a call on a handle that isn't open is refused for it, even past the end
abbrev pub without_handle : ClientRequest
without_handle = record (read 4 4) { partition = None }

abbrev pub RefusesClosedHandle : Type 0
RefusesClosedHandle = Run small (opening zeros) (Call 1 without_handle ∷ Answer 1 InvalidHandle 0 [] ∷ []) (idle zeros 2 1)

-- a call is refused past the end, where it begins inside a sector, and where its length is no multiple of a sector
abbrev pub RefusesOutOfBounds : Type 0
RefusesOutOfBounds = Run small (opening zeros) (
    Call 1 (read 4 4) ∷ Answer 1 InvalidParameter 0 [] ∷ Call 2 (read 1 2) ∷ Answer 2 InvalidParameter 0 [] ∷ Call 3 (read 0 3) ∷ Answer 3 InvalidParameter 0 []
    ∷ []) (idle zeros 4 1)

abbrev pub at_most_two : Rules
at_most_two = record small { longest = 2 }

-- a call inside the partition is refused that is longer than a request may be
abbrev pub RefusesTooLong : Type 0
RefusesTooLong = Run at_most_two (opening zeros) (Call 1 (read 0 6) ∷ Answer 1 InvalidParameter 0 [] ∷ []) (idle zeros 2 1)

-- a read of no bytes at the very end succeeds; one sector further is past the end
abbrev pub ReadsNothing : Type 0
ReadsNothing = Run small (opening zeros) (Call 1 (read 6 0) ∷ Answer 1 Success 0 [] ∷ Call 2 (read 8 0) ∷ Answer 2 InvalidParameter 0 [] ∷ []) (idle zeros 3 1)

abbrev pub one_open : Rules
one_open = record small { open_requests = Some 1 }

abbrev pub RefusesOneMore : Type 0
RefusesOneMore = Run one_open (opening zeros) (Call 1 (read 0 2) ∷ Call 2 (read 2 2) ∷ Answer 2 DeviceBusy 0 [] ∷ [])
    (record (idle zeros 3 1) { requests = opened 1 (read 0 2) (Untouched ∷ []) ∷ [] })

-- after a removal every call is refused for it, also past the end; only a closed handle comes first
abbrev pub RefusesRemoved : Type 0
RefusesRemoved = Run small (opening zeros) (
    Pause ∷ Remove ∷ Removed ∷ Call 1 (read 0 2) ∷ Answer 1 DeletePending 0 [] ∷ Call 2 (read 4 4) ∷ Answer 2 DeletePending 0 []
    ∷ Call 3 without_handle ∷ Answer 3 InvalidHandle 0 []
    ∷ []) (record (idle zeros 4 1) { removing = true; removed = true })
