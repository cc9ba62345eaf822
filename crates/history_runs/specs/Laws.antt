-- What makes a history one that a run explains.
use Rattle.std.specs.Prelude.{◌≡◌, ◌<◌, ◌^◌, ◌↔◌, ℕ, true, List, All, Contains, Some, slice_get}
use Rattle.ntstatus.specs.declared.NtStatus.TheVariants.{DeviceBusy}
use Rattle.srb.specs.declared.Kind.TheVariants.{Write}
use Rattle.machine.specs.declared.ClientRequest.{ClientRequest}
use Rattle.machine.specs.declared.Label.{Label}
use Rattle.machine.specs.declared.Label.TheVariants.{Call, Answer}
use Rattle.machine.specs.Rules.{Rules, sectors_of, place_count, home}
use Rattle.machine.specs.Sending.{array_at}
use Rattle.machine_laws.specs.Reached.{AreWhole}
use Rattle.history_laws.specs.History.{history_of, IsExplained}
use Rattle.history_laws.specs.Schedules.{IsAt, IsNoEffect, IsScheduled}
use Rattle.history_laws.specs.Fitting.{all_fit_at_first}

-- each sector of a partition has a logical block address that a command has room for
abbrev pub IsAddressable : Rules → Type 0
IsAddressable rules = (p i : ℕ) → i < sectors_of rules (Some p) → home rules (Some p) i < 2 ^ 64

-- each sector has a schedule
abbrev pub AreScheduled : Rules → List (List (List ℕ)) → List Label → Type 0
AreScheduled rules arrays history = (p i : ℕ) (start : List ℕ) → slice_get (array_at arrays p) i ≡ Some start → IsScheduled rules p i start history

-- a write that is answered DEVICE_BUSY
pub record IsBusyWrite (history : List Label) (n : ℕ) (q : ClientRequest) : Type 0 where
  pub is_write : q.kind ≡ Write
  pub called : Contains history (Call n q)
  pub informed : ℕ
  pub bytes : List ℕ
  pub answered : Contains history (Answer n DeviceBusy informed bytes)

-- by these schedules the request has no effect at one of its places
pub record LeavesPlace (rules : Rules) (arrays : List (List (List ℕ))) (history : List Label) (schedules : AreScheduled rules arrays history) (n : ℕ) (q : ClientRequest) : Type 0 where
  pub place : ℕ
  pub inside : place < place_count rules q
  pub idle : (p i : ℕ) (start : List ℕ) (there : slice_get (array_at arrays p) i ≡ Some start) → IsAt rules p i q place → All (IsNoEffect n) (schedules p i start there).events

-- a machine gives DEVICE_BUSY only where it leaves out a place: so must each write that is answered so
abbrev pub BusyLeavePlaces : (rules : Rules) (arrays : List (List (List ℕ))) (history : List Label) → AreScheduled rules arrays history → Type 0
BusyLeavePlaces rules arrays history schedules = (n : ℕ) (q : ClientRequest) → IsBusyWrite history n q → LeavesPlace rules arrays history schedules n q

-- calls and answers that fit, of which each sector has a schedule, are those of some run
abbrev pub ScheduledAreExplained : Type 0
ScheduledAreExplained = (rules : Rules) (arrays : List (List (List ℕ))) (history : List Label) → IsAddressable rules → AreWhole rules arrays
    → history_of history ≡ history → all_fit_at_first rules history ≡ true → (schedules : AreScheduled rules arrays history) → BusyLeavePlaces rules arrays history schedules
    → IsExplained rules arrays history

-- and each sector of a history that a run explains has a schedule, by which writes that are answered DEVICE_BUSY leave out a place
abbrev pub ExplainedLeavePlaces : Type 0
ExplainedLeavePlaces = (rules : Rules) (arrays : List (List (List ℕ))) (history : List Label) → AreWhole rules arrays → IsExplained rules arrays history
    → (schedules : AreScheduled rules arrays history) × BusyLeavePlaces rules arrays history schedules

-- calls and answers, which fit behind each other, and of which each sector has a schedule, by which writes that are answered DEVICE_BUSY leave out a place
pub record IsLegal (rules : Rules) (arrays : List (List (List ℕ))) (history : List Label) : Type 0 where
  pub is_history : history_of history ≡ history
  pub fit : all_fit_at_first rules history ≡ true
  pub schedules : AreScheduled rules arrays history
  pub leave_places : BusyLeavePlaces rules arrays history schedules

-- a history is legal exactly where some run has just these calls and answers
abbrev pub LegalAreExplained : Type 0
LegalAreExplained = (rules : Rules) (arrays : List (List (List ℕ))) (history : List Label) → IsAddressable rules → AreWhole rules arrays
    → IsLegal rules arrays history ↔ IsExplained rules arrays history
