-- The hold, and removal.
use Rattle.std.specs.Prelude.{true, [], ◌∷◌, ◌++◌}
use Rattle.ntstatus.specs.declared.NtStatus.TheVariants.{Success, NoSuchDevice, DeletePending}
use Rattle.srb.specs.declared.DeviceLabel.TheVariants.{Start, Act, Return}
use Rattle.srb.specs.declared.Class.TheVariants.{Good}
use Rattle.machine.specs.declared.Label.TheVariants.{Call, Device, Answer, Pause, Resume, Remove, Surprise, Removed}
use Rattle.machine.specs.State.{opening}
use Rattle.machine.specs.Step.{Run}
use Rattle.worked_runs.specs.Small.{small, zeros, full_of, sectors, idle, read, write, read_block, write_block}

-- a read that comes during a pause waits for its end; one that was started goes on
abbrev pub HoldsThenResumes : Type 0
HoldsThenResumes = Run small (opening (sectors 17 34 51)) (
    Call 1 (read 0 2) ∷ Device (Start 1 0 (read_block 2 1)) ∷ Pause ∷ Call 2 (read 2 2) ∷ Device (Act 1 (full_of 17)) ∷ Device (Return 1 Good) ∷ Answer 1 Success 2 (full_of 17)
    ∷ Resume ∷ Device (Start 2 0 (read_block 3 1)) ∷ Device (Act 2 (full_of 34)) ∷ Device (Return 2 Good) ∷ Answer 2 Success 2 (full_of 34)
    ∷ []) (idle (sectors 17 34 51) 3 3)

-- a removal meets a write with one piece unsent, and a read that was held: the read never began, the write lost its
-- device
abbrev pub RemovesAll : Type 0
RemovesAll = Run small (opening zeros) (
    Call 1 (write 0 6 (full_of 165 ++ full_of 165 ++ full_of 165)) ∷ Device (Start 1 0 (write_block 2 1)) ∷ Device (Start 2 1 (write_block 3 1))
    ∷ Pause ∷ Call 2 (read 0 2) ∷ Remove ∷ Answer 2 DeletePending 0 []
    ∷ Device (Act 1 (full_of 165)) ∷ Device (Return 1 Good) ∷ Device (Act 2 (full_of 165)) ∷ Device (Return 2 Good) ∷ Answer 1 NoSuchDevice 0 []
    ∷ Removed ∷ Call 3 (read 0 2) ∷ Answer 3 DeletePending 0 []
    ∷ []) (record (idle (sectors 165 165 0) 4 3) { removing = true; removed = true })

-- a surprise removal meets two reads at the adapter and one more than the window: that one never began, the two go on
abbrev pub SurprisesAll : Type 0
SurprisesAll = Run small (opening (sectors 17 34 51)) (
    Call 1 (read 0 2) ∷ Device (Start 1 0 (read_block 2 1)) ∷ Call 2 (read 2 2) ∷ Device (Start 2 1 (read_block 3 1)) ∷ Call 3 (read 4 2)
    ∷ Surprise ∷ Answer 3 DeletePending 0 []
    ∷ Device (Act 2 (full_of 34)) ∷ Device (Return 2 Good) ∷ Answer 2 Success 2 (full_of 34)
    ∷ Device (Act 1 (full_of 17)) ∷ Device (Return 1 Good) ∷ Answer 1 Success 2 (full_of 17)
    ∷ Removed
    ∷ []) (record (idle (sectors 17 34 51) 4 3) { removing = true; removed = true })
