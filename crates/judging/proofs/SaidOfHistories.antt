-- What is said of a history by a verdict on it, and of what service it is.
use Rattle.std.proofs.Common.{◌≡◌, ℕ, List, Option, Some, subst, sym}
use Rattle.settings.specs.declared.Config.{Config}
use Rattle.startup.specs.Reading.{AreRead}
use Rattle.history_fitting.specs.declared.service.Service.{Service}
use Rattle.history_judge.specs.Histories.{HistoryView}
use Rattle.history_judge.specs.declared.judging.Verdict.{Verdict}
use Rattle.history_judge.specs.Verdicts.{IsRightBy}
use Rattle.judging.specs.declared.histories.Said.{Said}
use Rattle.judging.specs.declared.histories.Said.TheVariants.{By, Busy}
use Rattle.judging.specs.Histories.{IsServiceBy, IsServiceOf}
use Rattle.judging.specs.inside.Saying.{IsBy, IsSaid}

pub said_by : (history : HistoryView) (verdict : Verdict) (said : Said) → IsRightBy history.any history.service history.start history.gaps history.labels verdict → IsBy verdict said → IsSaid history said
said_by history verdict (By told) right is = subst (IsRightBy history.any history.service history.start history.gaps history.labels) (sym is) right
said_by history verdict (Busy place) right is = tt

-- the settings of an input tell the service
pub of_settings : (input : Option (List ℕ)) (told : Option (Option (List ℕ))) (config : Config) (service : Service) → told ≡ Some input → AreRead input config → IsServiceOf config service → IsServiceBy told service
of_settings input told config service is read of = subst (λ (t : Option (Option (List ℕ))). IsServiceBy t service) (sym is) (config, read, of)
