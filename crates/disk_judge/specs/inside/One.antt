-- One sector of a disk takes an event, or each of them.
use Rattle.std.specs.Prelude.{◌≡◌, ◌≢◌, ◌<◌, ℕ, Bool, true, false, List, Some, None, length}
use Rattle.sector_judge.specs.declared.Event.{Event}
use Rattle.sector_judge.specs.Known.{Knowledge, next}
use Rattle.disk_judge.specs.Disks.{known_at}

pub record IsTakenAt (sector : ℕ) (event : Event) (old new : List Knowledge) : Type 0 where
  pub long : length new ≡ length old
  pub at : next (known_at old sector) event ≡ Some (known_at new sector)
  pub others : (i : ℕ) → i ≢ sector → known_at new i ≡ known_at old i

abbrev pub TakesAt : Bool → ℕ → Event → List Knowledge → List Knowledge → Type 0
TakesAt true sector event old new = IsTakenAt sector event old new
TakesAt false sector event old new = next (known_at old sector) event ≡ None

-- the first so many have taken it, and the others nothing
pub record HaveTaken (count : ℕ) (event : Event) (old new : List Knowledge) : Type 0 where
  pub long : length new ≡ length old
  pub first : (i : ℕ) → i < count → next (known_at old i) event ≡ Some (known_at new i)
  pub rest : (i : ℕ) → (i < count → ⊥) → known_at new i ≡ known_at old i

-- it can't have happened to this sector
pub record IsNever (event : Event) (old : List Knowledge) (sector : ℕ) : Type 0 where
  pub on_disk : sector < length old
  pub never : next (known_at old sector) event ≡ None
