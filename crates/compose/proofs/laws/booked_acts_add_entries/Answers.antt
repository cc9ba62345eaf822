use Rattle.compose.proofs.JournaledKept.{booked_acts_add_entries}
use Rattle.compose.proofs.laws.booked_acts_add_entries.Goals as goal

pub returns : goal.returns
returns c = booked_acts_add_entries
