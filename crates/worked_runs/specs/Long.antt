-- Commands of sixteen bytes.
use Rattle.std.specs.Prelude.{◌+◌, ◌^◌, ℕ, List, [], ◌∷◌}
use Rattle.ntstatus.specs.declared.NtStatus.TheVariants.{Success}
use Rattle.srb.specs.declared.DeviceLabel.TheVariants.{Start, Act, Return}
use Rattle.srb.specs.declared.Class.TheVariants.{Good}
use Rattle.machine.specs.declared.Label.TheVariants.{Call, Device, Answer}
use Rattle.machine.specs.Rules.{Rules}
use Rattle.machine.specs.State.{State, Out, opening}
use Rattle.machine.specs.Step.{Run}
use Rattle.srb.specs.Fate.{Fresh}
use Rattle.worked_runs.specs.Small.{small, sectors, idle, read, flush, opened, piece_of}

-- the partition begins at the last sector that an address of four bytes reaches
abbrev pub far : Rules
far = record small { disk_sectors = 2 ^ 32 + 2; partitions = (record { first = 4294967295; count = 3 }) ∷ [] }

-- READ(10) of one block from FFFFFFFFh on, and READ(16) of one from 100000000h on
abbrev pub last_short : List ℕ
last_short = 0x28 ∷ 0 ∷ 255 ∷ 255 ∷ 255 ∷ 255 ∷ 0 ∷ 0 ∷ 1 ∷ 0 ∷ []

abbrev pub first_long : List ℕ
first_long = 0x88 ∷ 0 ∷ 0 ∷ 0 ∷ 0 ∷ 1 ∷ 0 ∷ 0 ∷ 0 ∷ 0 ∷ 0 ∷ 0 ∷ 0 ∷ 1 ∷ 0 ∷ 0 ∷ []

abbrev pub both_out : State
both_out = record (idle (sectors 17 34 51) 2 3) {
  requests = opened 1 (read 0 4) (Out ∷ Out ∷ []) ∷ [];
  pieces = piece_of 2 1 1 1 Fresh ∷ piece_of 1 0 1 0 Fresh ∷ [];
}

-- the two pieces of one read have the two forms
abbrev pub StartsInEachForm : Type 0
StartsInEachForm = Run far (opening (sectors 17 34 51)) (
    Call 1 (read 0 4) ∷ Device (Start 1 0 last_short) ∷ Device (Start 2 1 first_long)
    ∷ []) both_out

-- SYNCHRONIZE CACHE(16) of everything
abbrev pub long_sync_block : List ℕ
long_sync_block = 0x91 ∷ 0 ∷ 0 ∷ 0 ∷ 0 ∷ 0 ∷ 0 ∷ 0 ∷ 0 ∷ 0 ∷ 0 ∷ 0 ∷ 0 ∷ 0 ∷ 0 ∷ 0 ∷ []

-- a disk with more sectors than four bytes can number is flushed by the long form
abbrev pub FlushesFar : Type 0
FlushesFar = Run far (opening (sectors 17 34 51)) (
    Call 1 flush ∷ Device (Start 1 0 long_sync_block) ∷ Device (Act 1 []) ∷ Device (Return 1 Good) ∷ Answer 1 Success 0 []
    ∷ []) (idle (sectors 17 34 51) 2 2)
