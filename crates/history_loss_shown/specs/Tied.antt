-- A sync that is cut off ties sectors, by hand: what each shows has a schedule, and no sessions explain the whole.
use Rattle.std.specs.Prelude.{List, [], ◌∷◌}
use Rattle.ntstatus.specs.declared.NtStatus.TheVariants.{Success}
use Rattle.machine.specs.declared.ClientRequest.{ClientRequest}
use Rattle.machine.specs.declared.Label.TheVariants.{Call, Answer}
use Rattle.loss.specs.Sessions.{Line, Told}
use Rattle.loss.specs.Worked.{old}
use Rattle.history_loss.specs.Histories.{IsExplained}
use Rattle.history_loss.specs.Worked.{flush, read, small, write}
use Rattle.register_loss.specs.Schedules.{HasSchedule}
use Rattle.history_loss_sights.specs.Sights.{sights_of}
use Rattle.history_loss_shown.specs.Worked.{first_byte}

-- of sector 1
abbrev pub write_next : ClientRequest
write_next = record write { offset = 2 }

abbrev pub read_next : ClientRequest
read_next = record read { offset = 2 }

-- a flush stays open; sector 0 is written, and what it had before is read; then the same of sector 1
abbrev pub tied : List Line
tied =
    Told (Call 1 flush)
    ∷ Told (Call 2 write) ∷ Told (Answer 2 Success 2 []) ∷ Told (Call 3 read) ∷ Told (Answer 3 Success 2 old)
    ∷ Told (Call 4 write_next) ∷ Told (Answer 4 Success 2 []) ∷ Told (Call 5 read_next) ∷ Told (Answer 5 Success 2 old) ∷ []

pub record IsTiedByHand : Type 0 where
  -- where the flush fails behind the write of the one sector, or behind that of the other
  pub first : HasSchedule 9 (sights_of first_byte small 0 tied)
  pub second : HasSchedule 9 (sights_of first_byte small 1 tied)
  -- but it fails once
  pub unexplained : IsExplained small (λ i. old) tied → ⊥
