-- Runs over several sessions: between two of them power was lost, or the process ended.
use Rattle.std.specs.Prelude.{◌≡◌, ◌⊎◌, ◌<◌, ℕ, List, [], ◌∷◌}
use Rattle.srb.specs.Fate.{Fresh}
use Rattle.machine.specs.declared.Label.{Label}
use Rattle.machine.specs.Rules.{Rules}
use Rattle.machine.specs.State.{OpenRequest, Piece, State, IsSame, opening}
use Rattle.machine.specs.Step.{Step}
use Rattle.loss.specs.Held.{Held, IsOneOf, changed_by, fault_changes, left}
use Rattle.loss.specs.Moved.{IsOut, IsSameTable, Moves, Table, held_on, work_of}

-- a line of a trace over several sessions
pub data Line : Type 0 where
  Told : (label : Label) → Line
  -- power was lost
  Lost : Line
  -- the process ended, and its system went on
  Ended : Line

-- the machine, and beside it what the sectors may hold
pub record Moment : Type 0 where
  pub machine : State
  pub table : Table

-- a piece that is out and has neither acted nor failed: it may be at work
pub record IsAtWork (s : State) (piece : Piece) (owner : OpenRequest) : Type 0 where
  pub out : IsOut s piece.number piece owner
  pub fresh : piece.fate ≡ Fresh

-- sector i as the piece may have left it
abbrev pub worked_on : Rules → State → Table → Piece → OpenRequest → ℕ → Held
worked_on rules s t piece owner i = changed_by s.next_piece (fault_changes rules.sector_size (work_of rules owner.request piece.places) i) (t i)

-- a loss may leave this of sector i, by what acted and failed so far, or by a piece at work
abbrev pub MayBeLeft : Rules → State → Table → ℕ → List ℕ → Type 0
MayBeLeft rules s t i value =
    IsOneOf value (left (t i)) ⊎ ((piece : Piece) × (owner : OpenRequest) × IsAtWork s piece owner × IsOneOf value (left (worked_on rules s t piece owner i)))

-- the end of the process may leave it
abbrev pub MayRemain : Rules → State → Table → ℕ → List ℕ → Type 0
MayRemain rules s t i value =
    IsOneOf value (t i).now ⊎ ((piece : Piece) × (owner : OpenRequest) × IsAtWork s piece owner × IsOneOf value (worked_on rules s t piece owner i).now)

-- a session begins anew over a disk, each sector of which is what it may be: requests, pieces and numbers are gone
pub record BeginsOver (rules : Rules) (May : ℕ → List ℕ → Type 0) (old new : Moment) : Type 0 where
  pub disk : ℕ → List ℕ
  pub chosen : (i : ℕ) → i < rules.disk_sectors → May i (disk i)
  pub machine : new.machine ≡ opening old.machine.arrays
  pub table : IsSameTable (held_on disk) new.table

-- one line
abbrev pub LineStep : Rules → Moment → Line → Moment → Type 0
LineStep rules old (Told label) new = Step rules old.machine label new.machine × Moves rules old.machine label old.table new.table
LineStep rules old Lost new = BeginsOver rules (MayBeLeft rules old.machine old.table) old new
LineStep rules old Ended new = BeginsOver rules (MayRemain rules old.machine old.table) old new

-- a trace of sessions
abbrev pub Sessions : Rules → Moment → List Line → Moment → Type 0
Sessions rules old [] new = IsSame old.machine new.machine × IsSameTable old.table new.table
Sessions rules old (line ∷ lines) new = (mid : Moment) × LineStep rules old line mid × Sessions rules mid lines new
