-- Lines that were read, up to one that stops.
use Rattle.std.specs.Prelude.{◌≡◌, ◌≤◌, ◌<◌, ℕ, List, All, Option, None, Some, length, map, slice_get, take}
use Rattle.machine.specs.Rules.{Rules}
use Rattle.sector_judge.specs.Happened.{CanHappen}
use Rattle.disk_judge.specs.Disks.{CanHappenTo, events_at}
use Rattle.session_judge.specs.declared.walk.Line.{Line}
use Rattle.session_judge.specs.declared.walk.Stop.{Stop}
use Rattle.session_judge.specs.declared.walk.Stop.TheVariants as stop
use Rattle.session_judge.specs.declared.deeds.Deed.{Deed}
use Rattle.session_judge.specs.declared.judging.Reading.{Reading}
use Rattle.session_judge.specs.declared.judging.Verdict.{Verdict}
use Rattle.session_judge.specs.declared.judging.Verdict.TheVariants.{Passed, Breaks, Refused, Unnamed}
use Rattle.session_judge.specs.Numbers.{IsNumbered, happening_of}
use Rattle.session_judge.specs.Walks.{AreDeedsOf}
use Rattle.session_judge.specs.inside.Walking.{IsStop}

-- the line behind those that were read stops
pub record IsStopOf (rules : Rules) (lines : List Line) (count : ℕ) (why : Stop) : Type 0 where
  pub line : Line
  pub is_line : slice_get lines count ≡ Some line
  pub is_stop : IsStop rules (take count lines) line why

abbrev pub HasRead : Rules → List Line → ℕ → Option Stop → Type 0
HasRead rules lines count None = count ≡ length lines
HasRead rules lines count (Some why) = IsStopOf rules lines count why

pub record IsRead (rules : Rules) (lines : List Line) (reading : Reading) : Type 0 where
  pub within : reading.count ≤ length lines
  pub are_deeds : AreDeedsOf rules (take reading.count lines) reading.deeds.items
  pub has_read : HasRead rules lines reading.count reading.stop

-- the verdict of what stops
abbrev pub verdict_by : ℕ → Option Stop → Verdict
verdict_by count None = Passed
verdict_by count (Some (stop.Breaks rule)) = Breaks count rule
verdict_by count (Some stop.Unnamed) = Unnamed count

-- all sectors can have had the deeds
pub record CanHave (deeds : List Deed) : Type 0 where
  pub tables : List (List (List ℕ))
  pub numbered : All (IsNumbered tables) deeds
  pub can_happen : CanHappenTo (length tables) (map (happening_of tables) deeds)

-- one can't
pub record CantHave (deeds : List Deed) (sector : ℕ) : Type 0 where
  pub tables : List (List (List ℕ))
  pub never : CanHappen (events_at sector (map (happening_of tables) deeds)) → ⊥

abbrev pub IsSaid : List Deed → ℕ → Option Stop → Verdict → Type 0
IsSaid deeds count stop (Refused line sector) = CantHave deeds sector
IsSaid deeds count stop verdict = CanHave deeds × (verdict ≡ verdict_by count stop)
