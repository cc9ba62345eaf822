-- Requests that are cut short or fail.
use Rattle.std.specs.Prelude.{List, [], ◌∷◌, ◌++◌}
use Rattle.ntstatus.specs.declared.NtStatus.TheVariants.{Cancelled, DeviceBusy, DeviceDataError, IoDeviceError}
use Rattle.srb.specs.declared.DeviceLabel.TheVariants.{Start, Act, Fault, Return}
use Rattle.srb.specs.declared.Class.TheVariants.{Good, Busy, Bad}
use Rattle.machine.specs.declared.Label.{Label}
use Rattle.machine.specs.declared.Label.TheVariants.{Call, Device, Answer, Cancel}
use Rattle.machine.specs.State.{opening}
use Rattle.machine.specs.Step.{Run}
use Rattle.worked_runs.specs.Small.{small, zeros, full_of, sectors, idle, read, write, read_block, write_block, bus_reset, error_of_key}

-- a write of three pieces on two tags is cancelled while the third waits, and the first comes back
abbrev pub cancelled_in_three : List Label
cancelled_in_three =
    Call 1 (write 0 6 (full_of 165 ++ full_of 165 ++ full_of 165)) ∷ Device (Start 1 0 (write_block 2 1)) ∷ Device (Start 2 1 (write_block 3 1)) ∷ Cancel 1
    ∷ Device (Act 1 (full_of 165)) ∷ Device (Return 1 Good)
    ∷ []

-- in the end the write has written two sectors
abbrev pub IsCutShort : Type 0
IsCutShort = Run small (opening zeros) (cancelled_in_three ++ Device (Act 2 (full_of 165)) ∷ Device (Return 2 Good) ∷ Answer 1 Cancelled 0 [] ∷ []) (idle (sectors 165 165 0) 2 3)

-- a write that comes back busy as often as it may
abbrev pub busy_twice : List Label
busy_twice =
    Call 1 (write 0 2 (full_of 165)) ∷ Device (Start 1 0 (write_block 2 1)) ∷ Device (Return 1 Busy) ∷ Device (Start 2 0 (write_block 2 1)) ∷ Device (Return 2 Busy)
    ∷ []

abbrev pub StaysBusy : Type 0
StaysBusy = Run small (opening zeros) (busy_twice ++ Answer 1 DeviceBusy 0 [] ∷ []) (idle zeros 2 3)

-- a reset finds the piece before its act: nothing is written
abbrev pub IsResetBeforeAct : Type 0
IsResetBeforeAct = Run small (opening zeros) (
    Call 1 (write 0 2 (full_of 165)) ∷ Device (Start 1 0 (write_block 2 1)) ∷ Device (Fault 1) ∷ Device (Return 1 (Bad bus_reset)) ∷ Answer 1 IoDeviceError 0 []
    ∷ []) (idle zeros 2 2)

-- a reset finds the piece after its act: the answer is the same, and the sector is written
abbrev pub IsResetAfterAct : Type 0
IsResetAfterAct = Run small (opening zeros) (
    Call 1 (write 0 2 (full_of 165)) ∷ Device (Start 1 0 (write_block 2 1)) ∷ Device (Act 1 (full_of 165)) ∷ Device (Return 1 (Bad bus_reset)) ∷ Answer 1 IoDeviceError 0 []
    ∷ []) (idle (sectors 165 0 0) 2 2)

-- both pieces of a read fail: the second one first and for want of readiness, then the first with a medium error
abbrev pub both_fail : List Label
both_fail =
    Call 1 (read 0 4) ∷ Device (Start 1 0 (read_block 2 1)) ∷ Device (Start 2 1 (read_block 3 1))
    ∷ Device (Fault 2) ∷ Device (Return 2 (Bad (error_of_key 2))) ∷ Device (Fault 1) ∷ Device (Return 1 (Bad (error_of_key 3)))
    ∷ []

-- the answer is the medium error
abbrev pub AnswersLowestFailure : Type 0
AnswersLowestFailure = Run small (opening zeros) (both_fail ++ Answer 1 DeviceDataError 0 [] ∷ []) (idle zeros 2 3)
