-- What is known of the calls tells how labels fit.
use Rattle.std.specs.Prelude.{◌≡◌, Bool, true, List, Option}
use Rattle.machine.specs.declared.Label.{Label}
use Rattle.machine.specs.Rules.{Rules}
use Rattle.history_laws.specs.declared.Asked.{Asked}
use Rattle.history_laws.specs.Fitting.{asked_after, fits, owed_after}
use Rattle.history.specs.Gaps.{fits_by}
use Rattle.history_fitting.specs.declared.fitting.Known.{Known}
use Rattle.history_fitting.specs.Opened.{AreOpen, Takes, may_come, may_come_by}

-- just what was asked and isn't answered is open behind this label too, and the same is owed
pub record AreOpenBehind (rules : Rules) (asked : List (Option Asked)) (known : Known) (label : Label) (new : Known) : Type 0 where
  pub open_still : AreOpen (asked_after rules asked known.owed label) new
  pub owed : new.owed ≡ owed_after rules known.owed label

-- a label may come where it fits behind what was asked, and where it was taken the same holds of the next
abbrev pub KnownFit : Type 0
KnownFit = (rules : Rules) (asked : List (Option Asked)) (known : Known) (label : Label) → AreOpen asked known
    → (may_come rules known label ≡ fits rules asked known.owed label)
    × ((new : Known) → may_come rules known label ≡ true → Takes rules known label new → AreOpenBehind rules asked known label new)

-- the same of labels for each of which it is said whether its bytes were not recorded
abbrev pub KnownFitBy : Type 0
KnownFitBy = (gap : Bool) (rules : Rules) (asked : List (Option Asked)) (known : Known) (label : Label) → AreOpen asked known
    → (may_come_by gap rules known label ≡ fits_by gap rules asked known.owed label)
    × ((new : Known) → may_come_by gap rules known label ≡ true → Takes rules known label new → AreOpenBehind rules asked known label new)
