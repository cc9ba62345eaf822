-- What a passed history over sessions says of the sessions of its service.
use Rattle.std.specs.Prelude.{◌≡◌, ℕ, List, All}
use Rattle.machine.specs.Rules.{Rules}
use Rattle.machine_laws.specs.Reached.{AreWhole}
use Rattle.history_runs.specs.Laws.{IsAddressable}
use Rattle.loss.specs.Sessions.{Line}
use Rattle.history_loss.specs.Histories.{IsExplained, seen_of}
use Rattle.history_loss_runs.specs.Laws.{IsNotBusy}
use Rattle.history_loss_shown.specs.Laws.{IsMoved}
use Rattle.history_fitting.specs.declared.service.Service.{Service}
use Rattle.history_fitting.specs.Services.{AreOf}
use Rattle.history_loss_judge.specs.Verdicts.{IsPassed}

-- a history that passes, in which no answer is DEVICE_BUSY, is explained by some sessions of a service of these sizes, over any disk on which
-- each sector that a call moves has the given bytes
abbrev pub PassedAreExplained : Type 0
PassedAreExplained = (service : Service) (start : List ℕ) (lines : List Line) (rules : Rules) (disk : ℕ → List ℕ) (arrays : List (List (List ℕ)))
    → AreOf service rules → IsAddressable rules → AreWhole rules arrays → ((i : ℕ) → IsMoved rules i lines → disk i ≡ start)
    → seen_of lines ≡ lines → All IsNotBusy lines → IsPassed service start lines → IsExplained rules disk lines
