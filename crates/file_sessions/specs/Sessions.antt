-- Sessions over a file: a run of the machine from what the file holds, and what stands there behind it.
use Rattle.std.specs.Prelude.{◌≡◌, ℕ, Bool, true, false, List, [], ◌∷◌, ◌++◌, map}
use Rattle.file_disk.specs.Calls.{Call}
use Rattle.machine.specs.declared.Label.{Label}
use Rattle.machine.specs.Rules.{Rules}
use Rattle.machine.specs.State.{opening}
use Rattle.loss.specs.Moved.{TableRun, held_on}
use Rattle.loss.specs.Sessions.{Line, Told, Lost, Ended, LineStep, Moment}
use Rattle.file_sessions.specs.Stored.{Content, Remains, Survives}

-- a session begins over a file that holds this
abbrev pub beginning : List (List (List ℕ)) → Content → Moment
beginning arrays content = record { machine = opening arrays; table = held_on content }

-- from a file that held this, these calls were made, and these labels lead to a moment: what a loss of power leaves of the calls is what
-- it may leave there, and so is what the end of the process leaves
pub record IsSession (rules : Rules) (arrays : List (List (List ℕ))) (before : Content) (calls : List Call) (labels : List Label) (end : Moment) : Type 0 where
  pub run : TableRun rules (opening arrays) (held_on before) labels end.machine end.table
  pub lost : (after : Content) → Survives rules.sector_size rules.disk_sectors before calls after → LineStep rules end Lost (beginning arrays after)
  pub ended : (after : Content) → Remains rules.sector_size rules.disk_sectors before calls after → LineStep rules end Ended (beginning arrays after)

-- ONE BEHIND THE OTHER

-- what was told of a session, what was called, and whether power was lost at its end, or only the process ended
pub record Part : Type 0 where
  pub labels : List Label
  pub calls : List Call
  pub lost : Bool

abbrev pub line_of : Bool → Line
line_of true = Lost
line_of false = Ended

-- the trace of all
abbrev pub lines_of : List Part → List Line
lines_of [] = []
lines_of (part ∷ parts) = map Told part.labels ++ line_of part.lost ∷ lines_of parts

-- what the file holds behind it
abbrev pub Outlives : Rules → Content → Part → Content → Type 0
Outlives rules before part after = elim (part.lost) [
  | true ↦ Survives rules.sector_size rules.disk_sectors before part.calls after
  | false ↦ Remains rules.sector_size rules.disk_sectors before part.calls after
]

-- sessions, each over what the last one left
abbrev pub AreSessions : Rules → List (List (List ℕ)) → Content → List Part → Content → Type 0
AreSessions rules arrays before [] after = after ≡ before
AreSessions rules arrays before (part ∷ parts) after =
    (end : Moment) × (mid : Content) × IsSession rules arrays before part.calls part.labels end × Outlives rules before part mid × AreSessions rules arrays mid parts after
