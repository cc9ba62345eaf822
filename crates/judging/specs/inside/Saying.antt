-- What is said of a history.
use Rattle.std.specs.Prelude.{◌≡◌}
use Rattle.history_judge.specs.Histories.{HistoryView}
use Rattle.history_judge.specs.declared.judging.Verdict.{Verdict}
use Rattle.history_judge.specs.Verdicts.{IsRightBy}
use Rattle.history_loss_judge.specs.Histories.{HistoryView as SessionsView}
use Rattle.history_loss_judge.specs.Verdicts.{IsRight}
use Rattle.judging.specs.declared.histories.Said.{Said}
use Rattle.judging.specs.declared.session_histories.Said.{Said as SaidOfSessions}
use Rattle.judging.specs.declared.session_histories.Said.TheVariants.{By as BySessions, Busy as BusySessions}
use Rattle.judging.specs.declared.histories.Said.TheVariants.{By, Busy}

-- a verdict that is told is right
abbrev pub IsSaid : HistoryView → Said → Type 0
IsSaid history (By verdict) = IsRightBy history.any history.service history.start history.gaps history.labels verdict
IsSaid history (Busy place) = Unit {0}

-- if a verdict is told, it is this one
abbrev pub IsBy : Verdict → Said → Type 0
IsBy verdict (By told) = told ≡ verdict
IsBy verdict (Busy place) = Unit {0}

-- a verdict on a history over sessions that is told is right
abbrev pub IsSaidOfSessions : SessionsView → SaidOfSessions → Type 0
IsSaidOfSessions history (BySessions verdict) = IsRight history.service history.start history.lines verdict
IsSaidOfSessions history BusySessions = Unit {0}
