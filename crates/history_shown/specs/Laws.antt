-- What a schedule of a register says of the sector that showed it.
use Rattle.std.specs.Prelude.{◌≡◌, ◌≢◌, ◌<◌, ℕ, true, List, [], Some, All, Contains, slice_get}
use Rattle.machine.specs.declared.ClientRequest.{ClientRequest}
use Rattle.machine.specs.declared.Label.{Label}
use Rattle.machine.specs.declared.Label.TheVariants.{Call}
use Rattle.machine.specs.Rules.{Rules}
use Rattle.machine.specs.Sending.{array_at}
use Rattle.machine_laws.specs.Reached.{AreWhole}
use Rattle.history_laws.specs.History.{history_of, IsExplained}
use Rattle.history_laws.specs.Schedules.{IsScheduled}
use Rattle.history_laws.specs.Fitting.{all_fit_at_first}
use Rattle.history_runs.specs.Laws.{IsAddressable, IsBusyWrite}
use Rattle.register.specs.declared.Sight.{Sight}
use Rattle.register.specs.declared.Sight.TheVariants.{Write, Read, Done, Failed}
use Rattle.register.specs.Schedules.{HasSchedule, unrecorded}
use Rattle.history.specs.Sights.{has_sector, sights_of}

-- different bytes are different values, where one of these is below the count
abbrev pub Tells : (List ℕ → ℕ) → ℕ → Type 0
Tells code count = (a b : List ℕ) → code a < count → code a ≡ code b → a ≡ b

-- what is read has a value below it
abbrev pub IsReadBelow : ℕ → Sight → Type 0
IsReadBelow count (Read number value) = value < count
IsReadBelow count (Write number value) = Unit {0}
IsReadBelow count (Done number) = Unit {0}
IsReadBelow count (Failed number) = Unit {0}

-- the bytes of what is called were recorded
abbrev pub IsRecorded : Sight → Type 0
IsRecorded (Read number value) = value ≢ unrecorded
IsRecorded (Write number value) = value ≢ unrecorded
IsRecorded (Done number) = Unit {0}
IsRecorded (Failed number) = Unit {0}

-- in a history that fits, a sector that shows what has a schedule as a register has a schedule, where all bytes were recorded
abbrev pub ShownAreScheduled : Type 0
ShownAreScheduled = (code : List ℕ → ℕ) (count : ℕ) (rules : Rules) (p i : ℕ) (start : List ℕ) (history : List Label) → Tells code count → all_fit_at_first rules history ≡ true
    → All (IsReadBelow count) (sights_of code rules p i [] history) → All IsRecorded (sights_of code rules p i [] history) → HasSchedule (code start) (sights_of code rules p i [] history) → IsScheduled rules p i start history

-- some call moves the sector
pub record IsMoved (rules : Rules) (p i : ℕ) (history : List Label) : Type 0 where
  pub number : ℕ
  pub request : ClientRequest
  pub called : Contains history (Call number request)
  pub moves : has_sector rules p i request ≡ true

-- a history that fits is explained, where no write is answered DEVICE_BUSY, and each sector that it moves has a schedule
abbrev pub MovedAreExplained : Type 0
MovedAreExplained = (rules : Rules) (arrays : List (List (List ℕ))) (history : List Label) → IsAddressable rules → AreWhole rules arrays
    → history_of history ≡ history → all_fit_at_first rules history ≡ true → ((n : ℕ) (q : ClientRequest) → IsBusyWrite history n q → ⊥)
    → ((p i : ℕ) (start : List ℕ) → slice_get (array_at arrays p) i ≡ Some start → IsMoved rules p i history → IsScheduled rules p i start history)
    → IsExplained rules arrays history
