use Rattle.history.proofs.Blanking.{blanks_scheduled}
use Rattle.history.proofs.blanks_are_scheduled.Goals as goal

pub returns : goal.returns
returns c = blanks_scheduled
