-- What a sector may have had at the start.
use Rattle.std.specs.Prelude.{◌≡◌, ◌≢◌, ◌⊎◌, ℕ, ◌==◌, Bool, true, false, List, [], ◌∷◌, ◌++◌, All, Contains, length, if◌then◌else◌}
use Rattle.std.specs.List.{list_any}
use Rattle.register.specs.Values.{code}
use Rattle.register.specs.declared.Sight.{Sight}
use Rattle.register.specs.declared.Sight.TheVariants.{Write, Read, Done, Failed}
use Rattle.register.specs.Schedules.{HasSchedule, unrecorded}
use Rattle.register_judge.specs.declared.observed.SoFar.{SoFar}
use Rattle.register_judge.specs.declared.observed.SoFar.TheVariants.{Passed, Refused, Undecided}
use Rattle.register_judge.specs.Observed.{IsSoFar}
use Rattle.history_judge.specs.declared.trying.Starts.{Starts}

-- the read is one of these
abbrev pub is_blank : List ℕ → ℕ → Bool
is_blank blanks number = list_any (λ blank. blank == number) blanks

-- the reads whose bytes were not recorded, and this one if it is one
abbrev pub with_blank : List ℕ → ℕ → ℕ → List ℕ
with_blank blanks number value = if value == unrecorded then number ∷ blanks else blanks

-- a read of the value is called before anything succeeds but reads whose bytes were not recorded: these, and later ones
abbrev pub IsEarly : List ℕ → ℕ → List Sight → Type 0
IsEarly blanks value [] = ⊥
IsEarly blanks value (Read number other ∷ sights) = ((other ≡ value) × (other ≢ unrecorded)) ⊎ IsEarly (with_blank blanks number other) value sights
IsEarly blanks value (Done number ∷ sights) = (is_blank blanks number ≡ true) × IsEarly blanks value sights
IsEarly blanks value (Write number other ∷ sights) = IsEarly blanks value sights
IsEarly blanks value (Failed number ∷ sights) = IsEarly blanks value sights

abbrev pub Keeps : List ℕ → List ℕ → Type 0
Keeps old new = (value : ℕ) → Contains old value → Contains new value

-- a read's value is added, up to the first success of anything but the reads whose bytes were not recorded
abbrev pub TakesStart : List ℕ → List ℕ → Sight → List ℕ → List ℕ → Bool → Type 0
TakesStart blanks old (Read number value) more new goes = (goes ≡ true) × (more ≡ with_blank blanks number value) × Keeps old new × (value ≢ unrecorded → Contains new value)
TakesStart blanks old (Done number) more new goes = (goes ≡ is_blank blanks number) × (more ≡ blanks) × Keeps old new
TakesStart blanks old (Write number value) more new goes = (goes ≡ true) × (more ≡ blanks) × Keeps old new
TakesStart blanks old (Failed number) more new goes = (goes ≡ true) × (more ≡ blanks) × Keeps old new

-- this value, and those that are read early
pub record HasStarts (first : ℕ) (sights : List Sight) (values : List ℕ) : Type 0 where
  pub has_first : Contains values first
  pub early : (value : ℕ) → IsEarly [] value sights → Contains values value

-- the value is that of so many bytes
pub record IsSized (size value : ℕ) : Type 0 where
  pub bytes : List ℕ
  pub whole : length bytes ≡ size
  pub is : value ≡ code bytes

-- a register that began with some bytes has a schedule
pub record StandsFrom (size : ℕ) (sights : List Sight) : Type 0 where
  pub start : ℕ
  pub sized : IsSized size start
  pub schedule : HasSchedule start sights

-- where the register may have begun with any bytes, it began with so many
abbrev pub Counts : Bool → ℕ → ℕ → Type 0
Counts false size start = Unit {0}
Counts true size start = IsSized size start

pub record Serves (any : Bool) (size start : ℕ) (sights : List Sight) : Type 0 where
  pub counts : Counts any size start
  pub schedule : HasSchedule start sights

-- what is passed passes only if it counts
abbrev pub so_far_if : Bool → SoFar → SoFar
so_far_if true so_far = so_far
so_far_if false Passed = Undecided
so_far_if false Refused = Refused
so_far_if false Undecided = Undecided

abbrev pub IsTriedOf : Bool → ℕ → ℕ → List Sight → SoFar → Type 0
IsTriedOf any size start sights Passed = Serves any size start sights
IsTriedOf any size start sights Refused = HasSchedule start sights → ⊥
IsTriedOf any size start sights Undecided = Unit {0}

-- one of these values serves, or none
abbrev pub IsTriedAll : Bool → ℕ → List ℕ → List Sight → SoFar → Type 0
IsTriedAll any size values sights Passed = (start : ℕ) × Contains values start × Serves any size start sights
IsTriedAll any size values sights Refused = All (λ start. HasSchedule start sights → ⊥) values
IsTriedAll any size values sights Undecided = Unit {0}

-- some bytes serve, or no value at all
abbrev pub IsTriedAny : ℕ → List Sight → SoFar → Type 0
IsTriedAny size sights Passed = StandsFrom size sights
IsTriedAny size sights Refused = (start : ℕ) → HasSchedule start sights → ⊥
IsTriedAny size sights Undecided = Unit {0}

-- from any bytes, or from one value
abbrev pub IsTriedBy : Bool → ℕ → ℕ → List Sight → SoFar → Type 0
IsTriedBy true size start sights so_far = IsTriedAny size sights so_far
IsTriedBy false size start sights so_far = IsSoFar start sights so_far

-- the values, and whether what comes later adds none
pub record StartsOf (first : ℕ) (given : List Sight) (starts : Starts) : Type 0 where
  pub here : HasStarts first given starts.values.items
  pub later : starts.over ≡ true → (more : List Sight) → HasStarts first (given ++ more) starts.values.items

-- what passes does so by one of two, and what is refused is so by both
pub record IsBetter (a b best : SoFar) : Type 0 where
  pub passes : best ≡ Passed → (a ≡ Passed) ⊎ (b ≡ Passed)
  pub refused : best ≡ Refused → (a ≡ Refused) × (b ≡ Refused)
