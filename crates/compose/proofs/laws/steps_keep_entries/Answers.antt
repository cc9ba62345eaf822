use Rattle.compose.proofs.JournaledKept.{steps_keep_entries}
use Rattle.compose.proofs.laws.steps_keep_entries.Goals as goal

pub returns : goal.returns
returns c = steps_keep_entries
