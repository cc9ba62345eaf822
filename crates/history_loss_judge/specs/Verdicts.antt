-- What a verdict says of a history over sessions.
use Rattle.std.specs.Prelude.{◌≡◌, ◌<◌, ℕ, true, false, List, [], ◌∷◌, None}
use Rattle.loss.specs.Sessions.{Line}
use Rattle.machine.specs.Rules.{Rules}
use Rattle.register.specs.Values.{code}
use Rattle.register_loss.specs.Schedules.{HasSchedule}
use Rattle.history_loss.specs.Histories.{IsExplained}
use Rattle.history_loss_runs.specs.Laws.{all_fit_over}
use Rattle.history_loss_fits.specs.Laws.{labels_fit}
use Rattle.history_loss_sights.specs.Sights.{sights_of}
use Rattle.history_loss_shown.specs.Steady.{steady_sights_of}
use Rattle.history_fitting.specs.declared.service.Service.{Service}
use Rattle.history_fitting.specs.Services.{rules_of, AreOf}
use Rattle.history_loss_judge.specs.declared.judging.Verdict.{Verdict}
use Rattle.history_loss_judge.specs.declared.judging.Verdict.TheVariants.{Passed, Misfit, Refused, Undecided, Open, Owing}

-- sector i of the disk, which has these bytes at the start, has a schedule, with all flushes and writes past volatile caches
abbrev pub Passes : Service → List ℕ → List Line → ℕ → Type 0
Passes service start lines i = HasSchedule (code start) (sights_of code (rules_of service) i lines)

-- the same with those alone that succeed
abbrev pub PassesSteady : Service → List ℕ → List Line → ℕ → Type 0
PassesSteady service start lines i = HasSchedule (code start) (steady_sights_of code (rules_of service) i lines)

-- the labels fit behind each other, each refused call is answered in its session, and each sector has a schedule
pub record IsPassed (service : Service) (start : List ℕ) (lines : List Line) : Type 0 where
  pub fit : all_fit_over (rules_of service) (None ∷ []) None lines ≡ true
  pub passes : (i : ℕ) → PassesSteady service start lines i

-- no sessions of a service of these sizes explain the history, over any disk
abbrev pub IsUnfit : Service → List Line → Type 0
IsUnfit service lines = (rules : Rules) (disk : ℕ → List ℕ) → AreOf service rules → IsExplained rules disk lines → ⊥

-- none explain it over a disk on which sector i has these bytes
abbrev pub IsUnexplained : Service → List ℕ → List Line → ℕ → Type 0
IsUnexplained service start lines i = (rules : Rules) (disk : ℕ → List ℕ) → AreOf service rules → i < rules.disk_sectors → disk i ≡ start → IsExplained rules disk lines → ⊥

-- sector i has a schedule, and none without the flushes and writes past volatile caches that did not succeed
pub record IsOpenAt (service : Service) (start : List ℕ) (lines : List Line) (i : ℕ) : Type 0 where
  pub passes : Passes service start lines i
  pub not_steady : PassesSteady service start lines i → ⊥

-- labels fit, and each sector has a schedule, but some refused call was not answered in its session
pub record IsOwing (service : Service) (start : List ℕ) (lines : List Line) : Type 0 where
  pub fit : labels_fit (rules_of service) (None ∷ []) None lines ≡ true
  pub not_answered : all_fit_over (rules_of service) (None ∷ []) None lines ≡ false
  pub passes : (i : ℕ) → PassesSteady service start lines i

-- what passes fits, and has schedules; no sessions explain what is refused
abbrev pub IsRight : Service → List ℕ → List Line → Verdict → Type 0
IsRight service start lines Passed = IsPassed service start lines
IsRight service start lines (Misfit line why) = IsUnfit service lines
IsRight service start lines (Refused sector line) = IsUnexplained service start lines sector
IsRight service start lines (Undecided sector) = Unit {0}
IsRight service start lines (Open sector) = IsOpenAt service start lines sector
IsRight service start lines (Owing line) = IsOwing service start lines
