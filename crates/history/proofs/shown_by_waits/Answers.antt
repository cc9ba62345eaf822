use Rattle.history.proofs.Waiting.{shown_by_waits}
use Rattle.history.proofs.shown_by_waits.Goals as goal

pub returns : goal.returns
returns c = shown_by_waits
