-- What stands for bytes that were not recorded.
use Rattle.std.specs.Prelude.{◌≡◌, ℕ, Bool, true, List, [], All, length}
use Rattle.machine.specs.declared.Label.{Label}
use Rattle.machine.specs.Rules.{Rules}
use Rattle.history_laws.specs.History.{history_of}
use Rattle.history_laws.specs.Fitting.{all_fit_at_first}
use Rattle.register.specs.Schedules.{HasSchedule}
use Rattle.register.specs.Values.{code}
use Rattle.history.specs.Sights.{sights_of}
use Rattle.history.specs.Gaps.{AreFilled, all_fit_by_at_first}
use Rattle.history_shown.specs.Laws.{IsMoved, IsRecorded}

-- each sector has so many bytes at the start as a sector has
abbrev pub AreSectors : Rules → (ℕ → ℕ → List ℕ) → Type 0
AreSectors rules start = (p i : ℕ) → length (start p i) ≡ rules.sector_size

-- what each sector shows that some call moves has a schedule as a register, from these bytes on
abbrev pub HaveSchedules : Rules → (ℕ → ℕ → List ℕ) → List Label → Type 0
HaveSchedules rules start history = (p i : ℕ) → IsMoved rules p i history → HasSchedule (code (start p i)) (sights_of code rules p i [] history)

-- the history with bytes in each gap: it fits, what its sectors show has schedules, and no value of it is unrecorded
pub record IsFilledUp (rules : Rules) (start : ℕ → ℕ → List ℕ) (gaps : List Bool) (history : List Label) : Type 0 where
  pub whole : List Label
  pub filled : AreFilled gaps history whole
  pub is_history : history_of whole ≡ whole
  pub fit : all_fit_at_first rules whole ≡ true
  pub scheduled : HaveSchedules rules start whole
  pub recorded : (p i : ℕ) → All IsRecorded (sights_of code rules p i [] whole)

-- calls and answers that fit but for bytes that were not recorded, of which each sector shows what has a schedule, can be filled
abbrev pub GapsAreFilled : Type 0
GapsAreFilled = (rules : Rules) (start : ℕ → ℕ → List ℕ) (gaps : List Bool) (history : List Label) → AreSectors rules start
    → history_of history ≡ history → all_fit_by_at_first rules gaps history ≡ true → HaveSchedules rules start history → IsFilledUp rules start gaps history
