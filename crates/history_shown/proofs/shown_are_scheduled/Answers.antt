use Rattle.history_shown.proofs.Scheduling.{shown_scheduled}
use Rattle.history_shown.proofs.shown_are_scheduled.Goals as goal

pub returns : goal.returns
returns c = shown_scheduled
