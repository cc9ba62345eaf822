-- What passes has schedules, so it is explained.
use Rattle.std.proofs.Common.{ℕ, List}
use Rattle.machine.specs.declared.Label.{Label}
use Rattle.history_shown.specs.Laws.{IsMoved}
use Rattle.history_fitting.specs.declared.service.Service.{Service}
use Rattle.history_fitting.specs.Services.{rules_of}
use Rattle.history_judge.specs.Verdicts.{IsTouched}
use Rattle.history_legal.specs.Laws.{PassedAreExplained}
use Rattle.history_legal.proofs.Explaining.{Laws, filled_explained}

-- what moves a sector touches it
pub moved_touched : (service : Service) (history : List Label) (p i : ℕ) → IsMoved (rules_of service) p i history → IsTouched (rules_of service) (record { partition = p; sector = i }) history
moved_touched service history p i moved = record { number = moved.number; request = moved.request; called = moved.called; moves = moved.moves }

pub passed_explained : Laws → PassedAreExplained
passed_explained laws service start gaps history arrays room whole sized held seen none_busy passed =
    filled_explained laws (rules_of service) (λ p i. start) gaps history arrays (λ p i. sized) room whole held seen none_busy passed.fit
    (λ p i moved. passed.passes (record { partition = p; sector = i }) (moved_touched service history p i moved))
