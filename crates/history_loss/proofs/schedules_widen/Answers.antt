use Rattle.history_loss.proofs.Widening.{calls_up, answers_down}
use Rattle.history_loss.proofs.schedules_widen.Goals as goal

pub returns : goal.returns
returns c = record { calls = calls_up; answers = answers_down }
