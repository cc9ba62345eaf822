-- What happens to the sectors of a disk over several sessions: each by itself.
use Rattle.std.specs.Prelude.{◌≡◌, ◌<◌, ◌≤◌, ℕ, ◌==◌, List, Option, Some, None, length, get_or, take, if◌then◌else◌}
use Rattle.std.specs.List.{filter_map}
use Rattle.sector_judge.specs.declared.Event.{Event}
use Rattle.sector_judge.specs.declared.Event.TheVariants.{Synced, Doubted, Lost, Ended}
use Rattle.disk_judge.specs.declared.Happening.{Happening}
use Rattle.disk_judge.specs.declared.Happening.TheVariants.{At, Flushed, SyncFailed, PowerLost, ProcessEnded}
use Rattle.disk_judge.specs.declared.Verdict.{Verdict}
use Rattle.disk_judge.specs.declared.Verdict.TheVariants.{Passed, Refused}
use Rattle.sector_judge.specs.Happened.{CanHappen}
use Rattle.sector_judge.specs.Known.{Knowledge, next, nothing_known}

-- what happens to sector i, if anything
abbrev pub event_at : ℕ → Happening → Option Event
event_at i (At sector event) = if sector == i then Some event else None
event_at i (Flushed flush) = Some (Synced flush)
event_at i SyncFailed = Some Doubted
event_at i PowerLost = Some Lost
event_at i ProcessEnded = Some Ended

abbrev pub events_at : ℕ → List Happening → List Event
events_at i happenings = filter_map (event_at i) happenings

-- the disk can have had all that: each of its sectors can
abbrev pub CanHappenTo : ℕ → List Happening → Type 0
CanHappenTo count happenings = (i : ℕ) → i < count → CanHappen (events_at i happenings)

-- the first so many can't have happened to this sector
pub record IsRefusal (count : ℕ) (happenings : List Happening) (taken sector : ℕ) : Type 0 where
  pub within : taken ≤ length happenings
  pub on_disk : sector < count
  pub never : CanHappen (events_at sector (take taken happenings)) → ⊥

abbrev pub IsRight : ℕ → List Happening → Verdict → Type 0
IsRight count happenings Passed = CanHappenTo count happenings
IsRight count happenings (Refused taken sector) = IsRefusal count happenings taken sector

-- WHAT IS KNOWN OF EACH

-- of sector i
abbrev pub known_at : List Knowledge → ℕ → Knowledge
known_at sectors i = get_or sectors i nothing_known

abbrev pub after : Option Event → Knowledge → Option Knowledge
after None k = Some k
after (Some event) k = next k event

-- each sector has taken what happened to it
pub record HasTaken (happening : Happening) (old new : List Knowledge) : Type 0 where
  pub long : length new ≡ length old
  pub each : (i : ℕ) → i < length old → after (event_at i happening) (known_at old i) ≡ Some (known_at new i)

-- it can't have happened to this sector
pub record IsRefusedAt (happening : Happening) (old : List Knowledge) (sector : ℕ) : Type 0 where
  pub on_disk : sector < length old
  pub never : after (event_at sector happening) (known_at old sector) ≡ None
