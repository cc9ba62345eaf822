-- What a verdict says of the lines of sessions.
use Rattle.std.specs.Prelude.{◌≡◌, ◌≤◌, ◌<◌, ℕ, List, Some, All, length, map, slice_get, take}
use Rattle.machine.specs.Rules.{Rules}
use Rattle.sector_judge.specs.Happened.{CanHappen}
use Rattle.disk_judge.specs.Disks.{CanHappenTo, events_at}
use Rattle.session_judge.specs.declared.walk.Line.{Line}
use Rattle.session_judge.specs.declared.deeds.Deed.{Deed}
use Rattle.session_judge.specs.declared.judging.Verdict.{Verdict}
use Rattle.session_judge.specs.declared.judging.Verdict.TheVariants.{Passed, Breaks, Refused, Unnamed}
use Rattle.session_judge.specs.Numbers.{IsNumbered, happening_of}
use Rattle.session_judge.specs.Walks.{AreDeedsOf, IsBroken}

-- each session is a run, and each sector can have had what the lines say of it, by the numbers of its bytes in a table
pub record Passes (rules : Rules) (lines : List Line) : Type 0 where
  pub deeds : List Deed
  pub are_deeds : AreDeedsOf rules lines deeds
  pub tables : List (List (List ℕ))
  pub numbered : All (IsNumbered tables) deeds
  pub can_happen : CanHappenTo (length tables) (map (happening_of tables) deeds)

-- this line is one of them, and those before pass, but the line breaks a rule
pub record StopsAt (rules : Rules) (lines : List Line) (at : ℕ) (Stops : List Line → Line → Type 0) : Type 0 where
  pub passes : Passes rules (take at lines)
  pub line : Line
  pub is_line : slice_get lines at ≡ Some line
  pub stops : Stops (take at lines) line

-- the first so many lines can't have said this of the sector, with the same number for the same bytes
pub record IsRefused (rules : Rules) (lines : List Line) (sector : ℕ) : Type 0 where
  pub count : ℕ
  pub within : count ≤ length lines
  pub deeds : List Deed
  pub are_deeds : AreDeedsOf rules (take count lines) deeds
  pub tables : List (List (List ℕ))
  pub never : CanHappen (events_at sector (map (happening_of tables) deeds)) → ⊥

abbrev pub IsRight : Rules → List Line → Verdict → Type 0
IsRight rules lines Passed = Passes rules lines
IsRight rules lines (Breaks line rule) = StopsAt rules lines line (λ before broken. IsBroken rules before broken rule)
IsRight rules lines (Refused line sector) = IsRefused rules lines sector
IsRight rules lines (Unnamed line) = Unit {0}
