use Rattle.compose.proofs.JournaledKept.{idle_acts_keep_entries}
use Rattle.compose.proofs.laws.idle_acts_keep_entries.Goals as goal

pub returns : goal.returns
returns c = idle_acts_keep_entries
