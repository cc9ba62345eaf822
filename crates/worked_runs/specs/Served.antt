-- Requests that are carried out.
use Rattle.std.specs.Prelude.{true, [], ◌∷◌, ◌++◌}
use Rattle.ntstatus.specs.declared.NtStatus.TheVariants.{Success}
use Rattle.srb.specs.declared.DeviceLabel.TheVariants.{Start, Act, Return}
use Rattle.srb.specs.declared.Class.TheVariants.{Good, Busy}
use Rattle.machine.specs.declared.ClientRequest.{ClientRequest}
use Rattle.machine.specs.declared.Label.TheVariants.{Call, Device, Answer, Cancel}
use Rattle.machine.specs.Rules.{Rules}
use Rattle.machine.specs.State.{opening}
use Rattle.machine.specs.Step.{Run}
use Rattle.worked_runs.specs.Small.{small, zeros, full_of, sectors, idle, read, write, flush, read_block, write_block, sync_block}

-- a sector is written, and read back
abbrev pub WritesThenReads : Type 0
WritesThenReads = Run small (opening zeros) (
    Call 1 (write 0 2 (full_of 165)) ∷ Device (Start 1 0 (write_block 2 1)) ∷ Device (Act 1 (full_of 165)) ∷ Device (Return 1 Good) ∷ Answer 1 Success 2 []
    ∷ Call 2 (read 0 2) ∷ Device (Start 2 0 (read_block 2 1)) ∷ Device (Act 2 (full_of 165)) ∷ Device (Return 2 Good) ∷ Answer 2 Success 2 (full_of 165)
    ∷ []) (idle (sectors 165 0 0) 3 3)

abbrev pub pairs : Rules
pairs = record small { max_transfer = 2 }

-- a piece of two sectors and a short last one come back in the other order, and the bytes stand in the order of their
-- places
abbrev pub JoinsInOrder : Type 0
JoinsInOrder = Run pairs (opening (sectors 17 34 51)) (
    Call 1 (read 0 6) ∷ Device (Start 1 0 (read_block 2 2)) ∷ Device (Start 2 1 (read_block 4 1))
    ∷ Device (Act 2 (full_of 51)) ∷ Device (Return 2 Good) ∷ Device (Act 1 (full_of 17 ++ full_of 34)) ∷ Device (Return 1 Good)
    ∷ Answer 1 Success 6 (full_of 17 ++ full_of 34 ++ full_of 51)
    ∷ []) (idle (sectors 17 34 51) 2 3)

-- a flush is one command that names no sector
abbrev pub Flushes : Type 0
Flushes = Run small (opening zeros) (
    Call 1 flush ∷ Device (Start 1 0 sync_block) ∷ Device (Act 1 []) ∷ Device (Return 1 Good) ∷ Answer 1 Success 0 []
    ∷ []) (idle zeros 2 2)

abbrev pub written_through : ClientRequest
written_through = record (write 0 2 (full_of 165)) { through = true }

-- bit 3 of byte 1, FUA, stands in the command of a write-through
abbrev pub WritesThrough : Type 0
WritesThrough = Run small (opening zeros) (
    Call 1 written_through ∷ Device (Start 1 0 (42 ∷ 8 ∷ 0 ∷ 0 ∷ 0 ∷ 2 ∷ 0 ∷ 0 ∷ 1 ∷ 0 ∷ [])) ∷ Device (Act 1 (full_of 165)) ∷ Device (Return 1 Good) ∷ Answer 1 Success 2 []
    ∷ []) (idle (sectors 165 0 0) 2 2)

-- a piece that came back busy is sent again, under a new number
abbrev pub SendsAgain : Type 0
SendsAgain = Run small (opening zeros) (
    Call 1 (write 0 2 (full_of 165)) ∷ Device (Start 1 0 (write_block 2 1)) ∷ Device (Return 1 Busy)
    ∷ Device (Start 2 0 (write_block 2 1)) ∷ Device (Act 2 (full_of 165)) ∷ Device (Return 2 Good) ∷ Answer 1 Success 2 []
    ∷ []) (idle (sectors 165 0 0) 2 3)

-- a cancel that comes when all pieces are at the adapter changes no answer
abbrev pub SucceedsThoughCancelled : Type 0
SucceedsThoughCancelled = Run small (opening zeros) (
    Call 1 (write 0 2 (full_of 165)) ∷ Device (Start 1 0 (write_block 2 1)) ∷ Cancel 1 ∷ Device (Act 1 (full_of 165)) ∷ Device (Return 1 Good) ∷ Answer 1 Success 2 []
    ∷ []) (idle (sectors 165 0 0) 2 2)
