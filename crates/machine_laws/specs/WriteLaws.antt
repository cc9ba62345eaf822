-- What a label may change of the arrays.
use Rattle.std.specs.Prelude.{◌≡◌, ◌⊎◌, ℕ, List, length}
use Rattle.machine.specs.declared.Label.{Label}
use Rattle.machine.specs.Rules.{Rules}
use Rattle.machine.specs.State.{State}
use Rattle.machine.specs.Step.{Step, Run}
use Rattle.machine.specs.Sending.{array_at}
use Rattle.machine_laws.specs.Sectors.{sector_at, WritesPartition, WritesSector}
use Rattle.machine_laws.specs.Along.{Sometime}
use Rattle.machine_laws.specs.Reached.{IsReached}

abbrev pub IsWriteOn : ℕ → State → Label → State → Type 0
IsWriteOn p s label s' = WritesPartition p s label

abbrev pub IsWriteAt : Rules → ℕ → ℕ → State → Label → State → Type 0
IsWriteAt rules p i s label s' = (r : ℕ) × WritesSector rules r p i s label s'

-- a partition's array stays, or the label is the act of a write on that very partition
abbrev pub StepsKeepArrays : Type 0
StepsKeepArrays = (rules : Rules) (s : State) (label : Label) (s' : State) → Step rules s label s' → (p : ℕ)
    → (array_at s'.arrays p ≡ array_at s.arrays p) ⊎ WritesPartition p s label

abbrev pub RunsKeepArrays : Type 0
RunsKeepArrays = (rules : Rules) (s : State) (labels : List Label) (s' : State) (run : Run rules s labels s') (p : ℕ)
    → (array_at s'.arrays p ≡ array_at s.arrays p) ⊎ Sometime (IsWriteOn p) rules s labels s' run

-- a sector stays, or the label is the act of a write's piece that covers it, and the write's bytes for that place stand there
abbrev pub StepsKeepSectors : Type 0
StepsKeepSectors = (rules : Rules) (s : State) (label : Label) (s' : State) → IsReached rules s → Step rules s label s' → (p i : ℕ)
    → (sector_at s' p i ≡ sector_at s p i) ⊎ IsWriteAt rules p i s label s'

abbrev pub RunsKeepSectors : Type 0
RunsKeepSectors = (rules : Rules) (s : State) (labels : List Label) (s' : State) → IsReached rules s → (run : Run rules s labels s') (p i : ℕ)
    → (sector_at s' p i ≡ sector_at s p i) ⊎ Sometime (IsWriteAt rules p i) rules s labels s' run

-- both have the same number of arrays, each of the same length
pub record HaveSameLengths (before after : List (List (List ℕ))) : Type 0 where
  pub arrays : length after ≡ length before
  pub sectors : (p : ℕ) → length (array_at after p) ≡ length (array_at before p)

abbrev pub RunsKeepLengths : Type 0
RunsKeepLengths = (rules : Rules) (s : State) (labels : List Label) (s' : State) → IsReached rules s → Run rules s labels s' → HaveSameLengths s.arrays s'.arrays
