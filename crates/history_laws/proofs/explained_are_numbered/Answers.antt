use Rattle.history_laws.proofs.Scheduling.{explained_numbered}
use Rattle.history_laws.proofs.explained_are_numbered.Goals as goal

pub returns : goal.returns
returns c = explained_numbered
