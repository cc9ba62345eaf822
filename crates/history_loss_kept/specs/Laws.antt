-- What is kept of a history that fits tells of each sector whether it has a schedule.
use Rattle.std.specs.Prelude.{◌≡◌, ◌↔◌, ℕ, true, false, List, [], ◌∷◌, None}
use Rattle.machine.specs.Rules.{Rules}
use Rattle.loss.specs.Sessions.{Line}
use Rattle.history_loss_fits.specs.Laws.{labels_fit}
use Rattle.register_loss.specs.Schedules.{HasSchedule}
use Rattle.history_loss_sights.specs.Sights.{sights_of}
use Rattle.history_loss_shown.specs.Steady.{steady_sights_of}
use Rattle.history_loss_kept.specs.Kept.{kept_of, known, nothing_kept}

-- what is kept with all syncs has a schedule exactly where all that the sector shows has one
abbrev pub KeptTellAll : Type 0
KeptTellAll = (code : List ℕ → ℕ) (rules : Rules) (i start : ℕ) (history : List Line) → labels_fit rules (None ∷ []) None history ≡ true
    → HasSchedule start (known true (kept_of code true rules i nothing_kept history)) ↔ HasSchedule start (sights_of code rules i history)

-- the same where syncs that do not succeed are left out
abbrev pub KeptTellSteady : Type 0
KeptTellSteady = (code : List ℕ → ℕ) (rules : Rules) (i start : ℕ) (history : List Line) → labels_fit rules (None ∷ []) None history ≡ true
    → HasSchedule start (known false (kept_of code false rules i nothing_kept history)) ↔ HasSchedule start (steady_sights_of code rules i history)
