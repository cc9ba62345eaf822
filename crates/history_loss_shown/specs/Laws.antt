-- What the schedules of registers say of a history over sessions.
use Rattle.std.specs.Prelude.{◌≡◌, ◌↔◌, ◌<◌, ◌≤◌, ℕ, ◌+◌, true, List, [], ◌∷◌, Some, None, All, Contains, slice_get}
use Rattle.sector.specs.declared.Extent.{Extent}
use Rattle.machine.specs.declared.ClientRequest.{ClientRequest}
use Rattle.machine.specs.declared.Label.TheVariants.{Call}
use Rattle.machine.specs.Rules.{Rules}
use Rattle.machine_laws.specs.Reached.{AreWhole}
use Rattle.history_runs.specs.Laws.{IsAddressable}
use Rattle.history_shown.specs.Laws.{Tells}
use Rattle.loss.specs.Sessions.{Line, Told}
use Rattle.history_loss.specs.Histories.{IsExplained, seen_of}
use Rattle.history_loss.specs.Schedules.{Event, IsScheduled, lines_of}
use Rattle.history_loss_runs.specs.Laws.{Fits, IsNotBusy, all_fit_over}
use Rattle.history_loss_fits.specs.Laws.{AreAnswered}
use Rattle.register_loss.specs.declared.What.TheVariants.{Read as Reads}
use Rattle.register_loss.specs.declared.Sight.{Sight}
use Rattle.register_loss.specs.declared.Sight.TheVariants.{Call as CallSight}
use Rattle.register_loss.specs.Schedules.{HasSchedule}
use Rattle.history_loss_sights.specs.Sights.{has_sector, sights_of}
use Rattle.history_loss_shown.specs.Steady.{AllSynced, steady_sights_of}

-- what is read has a value below the count
abbrev pub IsReadBelow : ℕ → Sight → Type 0
IsReadBelow count (CallSight number (Reads value)) = value < count
IsReadBelow count _ = Unit {0}

-- these sights have a schedule as a register, where each value that is read is below the count
pub record IsPassed (count value : ℕ) (sights : List Sight) : Type 0 where
  pub low : All (IsReadBelow count) sights
  pub schedule : HasSchedule value sights

-- some events that show the history are shared by a schedule of sector i, which has these bytes at the start
pub record IsScheduledOver (rules : Rules) (i : ℕ) (start : List ℕ) (history : List Line) : Type 0 where
  pub shared : List Event
  pub seen : lines_of shared ≡ history
  pub scheduled : IsScheduled rules i start shared

-- in a history that fits, a sector that shows what has a schedule as a register, without syncs that do not succeed, has a schedule
abbrev pub ShownAreScheduled : Type 0
ShownAreScheduled = (code : List ℕ → ℕ) (count : ℕ) (rules : Rules) (i : ℕ) (start : List ℕ) (history : List Line) → Tells code count → seen_of history ≡ history → all_fit_over rules (None ∷ []) None history ≡ true
    → IsPassed count (code start) (steady_sights_of code rules i history) → IsScheduledOver rules i start history

-- some call moves sector i of the disk
pub record IsMoved (rules : Rules) (i : ℕ) (history : List Line) : Type 0 where
  pub number : ℕ
  pub request : ClientRequest
  pub called : Contains history (Told (Call number request))
  pub moves : has_sector rules i request ≡ true

-- each sector that a call moves shows what has a schedule, without syncs that do not succeed
abbrev pub ArePassed : (List ℕ → ℕ) → ℕ → Rules → (ℕ → List ℕ) → List Line → Type 0
ArePassed code count rules disk history = (i : ℕ) → IsMoved rules i history → IsPassed count (code (disk i)) (steady_sights_of code rules i history)

-- then a history that fits is explained
abbrev pub ShownAreExplained : Type 0
ShownAreExplained = (code : List ℕ → ℕ) (count : ℕ) (rules : Rules) (disk : ℕ → List ℕ) (arrays : List (List (List ℕ))) (history : List Line)
    → Tells code count → IsAddressable rules → AreWhole rules arrays → Fits rules history → ArePassed code count rules disk history → IsExplained rules disk history

-- partitions lie on the disk
abbrev pub LieOnDisk : Rules → Type 0
LieOnDisk rules = (p : ℕ) (extent : Extent) → slice_get rules.partitions p ≡ Some extent → extent.first + extent.count ≤ rules.disk_sectors

-- where each sync succeeds, and each refused call is answered in its session, and no answer is DEVICE_BUSY, a history is explained exactly
-- where it fits and each sector that a call moves shows what has a schedule
abbrev pub SyncedAreExact : Type 0
SyncedAreExact = (code : List ℕ → ℕ) (count : ℕ) (rules : Rules) (disk : ℕ → List ℕ) (arrays : List (List (List ℕ))) (history : List Line)
    → Tells code count → IsAddressable rules → AreWhole rules arrays → LieOnDisk rules → AllSynced history → AreAnswered rules None history → All IsNotBusy history
    → ((i : ℕ) → IsMoved rules i history → All (IsReadBelow count) (sights_of code rules i history))
    → IsExplained rules disk history ↔ (Fits rules history × ((i : ℕ) → IsMoved rules i history → HasSchedule (code (disk i)) (sights_of code rules i history)))

-- there nothing is left out
abbrev pub SyncedAreSteady : Type 0
SyncedAreSteady = (code : List ℕ → ℕ) (rules : Rules) (i : ℕ) (history : List Line) → AllSynced history → steady_sights_of code rules i history ≡ sights_of code rules i history

-- where what some sector shows, with all syncs, has no schedule, no sessions explain the history
abbrev pub RefusedHaveNoSessions : Type 0
RefusedHaveNoSessions = (code : List ℕ → ℕ) (rules : Rules) (disk : ℕ → List ℕ) (history : List Line) (i : ℕ) → i < rules.disk_sectors
    → (HasSchedule (code (disk i)) (sights_of code rules i history) → ⊥) → IsExplained rules disk history → ⊥
