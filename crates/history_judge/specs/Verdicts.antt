-- What a verdict says of a history. Its gaps say of each label whether its bytes were not recorded.
use Rattle.std.specs.Prelude.{◌≡◌, ℕ, Bool, List, [], true, false, Some, slice_get, length, Contains}
use Rattle.machine.specs.declared.ClientRequest.{ClientRequest}
use Rattle.machine.specs.declared.Label.{Label}
use Rattle.machine.specs.declared.Label.TheVariants.{Call}
use Rattle.machine.specs.Rules.{Rules}
use Rattle.machine.specs.Sending.{array_at}
use Rattle.machine_laws.specs.Reached.{AreWhole}
use Rattle.register.specs.Values.{code}
use Rattle.register.specs.Schedules.{HasSchedule}
use Rattle.history.specs.Sights.{has_sector, sights_of}
use Rattle.history.specs.Gaps.{IsExplainedBySome, all_fit_by_at_first}
use Rattle.history_fitting.specs.declared.service.Service.{Service}
use Rattle.history_fitting.specs.declared.service.Place.{Place}
use Rattle.history_judge.specs.declared.judging.Verdict.{Verdict}
use Rattle.history_judge.specs.declared.judging.Verdict.TheVariants.{Passed, Misfit, Refused, Undecided}
use Rattle.history_fitting.specs.Services.{rules_of, AreOf}

-- some call moves the sector
pub record IsTouched (rules : Rules) (place : Place) (history : List Label) : Type 0 where
  pub number : ℕ
  pub request : ClientRequest
  pub called : Contains history (Call number request)
  pub moves : has_sector rules place.partition place.sector request ≡ true

-- what the history shows of the sector has a schedule as a register, which has these bytes at the start
abbrev pub Passes : Service → List ℕ → List Label → Place → Type 0
Passes service start history place = HasSchedule (code start) (sights_of code (rules_of service) place.partition place.sector [] history)

-- no run of a service of these sizes explains the history, whatever bytes were not recorded, from arrays in which the sector has these
-- bytes
abbrev pub IsUnexplained : Service → List ℕ → List Bool → List Label → Place → Type 0
IsUnexplained service start gaps history place = (rules : Rules) (arrays : List (List (List ℕ))) → AreOf service rules → AreWhole rules arrays
    → slice_get (array_at arrays place.partition) place.sector ≡ Some start → IsExplainedBySome rules arrays gaps history → ⊥

-- the labels fit behind each other, and what each touched sector shows has a schedule
pub record IsPassed (service : Service) (start : List ℕ) (gaps : List Bool) (history : List Label) : Type 0 where
  pub fit : all_fit_by_at_first (rules_of service) gaps history ≡ true
  pub passes : (place : Place) → IsTouched (rules_of service) place history → Passes service start history place

-- no run of a service of these sizes explains the history, whatever the sectors have and whatever bytes were not recorded
abbrev pub IsUnfit : Service → List Bool → List Label → Type 0
IsUnfit service gaps history = (rules : Rules) (arrays : List (List (List ℕ))) → AreOf service rules → AreWhole rules arrays → IsExplainedBySome rules arrays gaps history → ⊥

-- what passes fits, and has schedules; no run explains what is refused
abbrev pub IsRight : Service → List ℕ → List Bool → List Label → Verdict → Type 0
IsRight service start gaps history Passed = IsPassed service start gaps history
IsRight service start gaps history (Misfit line why) = IsUnfit service gaps history
IsRight service start gaps history (Refused place line) = IsUnexplained service start gaps history place
IsRight service start gaps history (Undecided place) = Unit {0}

-- what the sector shows has a schedule from some bytes on
pub record PassesFromSome (service : Service) (history : List Label) (place : Place) : Type 0 where
  pub start : List ℕ
  pub whole : length start ≡ service.sector_size
  pub passes : Passes service start history place

-- the labels fit behind each other, and what each touched sector shows has a schedule from some bytes on
pub record IsPassedFromSome (service : Service) (gaps : List Bool) (history : List Label) : Type 0 where
  pub fit : all_fit_by_at_first (rules_of service) gaps history ≡ true
  pub passes : (place : Place) → IsTouched (rules_of service) place history → PassesFromSome service history place

-- no run explains it from any bytes on
abbrev pub IsUnexplainedFromAny : Service → List Bool → List Label → Place → Type 0
IsUnexplainedFromAny service gaps history place = (start : List ℕ) → IsUnexplained service start gaps history place

-- what passes fits, and has schedules from some bytes on; no run explains what is refused, from any
abbrev pub IsRightFromAny : Service → List Bool → List Label → Verdict → Type 0
IsRightFromAny service gaps history Passed = IsPassedFromSome service gaps history
IsRightFromAny service gaps history (Misfit line why) = IsUnfit service gaps history
IsRightFromAny service gaps history (Refused place line) = IsUnexplainedFromAny service gaps history place
IsRightFromAny service gaps history (Undecided place) = Unit {0}

-- from these bytes on, or from any
abbrev pub IsRightBy : Bool → Service → List ℕ → List Bool → List Label → Verdict → Type 0
IsRightBy false service start gaps history verdict = IsRight service start gaps history verdict
IsRightBy true service start gaps history verdict = IsRightFromAny service gaps history verdict
