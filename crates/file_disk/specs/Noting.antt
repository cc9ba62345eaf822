-- How a call is noted: by numbers and bytes.
use Rattle.std.specs.Prelude.{ℕ, ◌==◌, Bool, true, false, List, Option, Some, None, Result, Ok, Err, slice_index, if◌then◌else◌}
use Rattle.file_disk.specs.declared.storage.Failure.{Failure}
use Rattle.file_disk.specs.declared.storage.Failure.TheVariants.{Protected, Full, Failed}
use Rattle.file_disk.specs.Calls.{Call, ReadAt, WriteAt, Sync}

-- how a call ended, by its number: 0 says that it succeeded, 1 that the file was protected, 2 that there was no room, any
-- other that it failed
abbrev pub failure_of : ℕ → Failure
failure_of code = if code == 1 then Protected else if code == 2 then Full else Failed

abbrev pub outcome_of : {X : Type 0} → ℕ → X → Result X Failure
outcome_of code x = if code == 0 then Ok x else Err (failure_of code)

abbrev pub fault_of : ℕ → Option Failure
fault_of code = if code == 0 then None else Some (failure_of code)

-- the first number says which call, the second where, the third how many, the last how it ended
abbrev pub call_of : List ℕ → List ℕ → Call
call_of numbers bytes =
    if slice_index numbers 0 == 0 then ReadAt (slice_index numbers 1) (slice_index numbers 2) (outcome_of (slice_index numbers 3) bytes)
    else if slice_index numbers 0 == 1 then WriteAt (slice_index numbers 1) bytes (outcome_of (slice_index numbers 3) (slice_index numbers 2))
    else Sync (fault_of (slice_index numbers 3))

-- whether there was no room for the newest of the writes that were refused, behind one that failed in this way
abbrev pub full_behind : Bool → Failure → Bool
full_behind full Full = true
full_behind full Protected = false
full_behind full Failed = full
