use Rattle.compose.proofs.JournaledArmed.{armed_may_be_booked}
use Rattle.compose.proofs.laws.armed_may_be_booked.Goals as goal

pub returns : goal.returns
returns c = armed_may_be_booked
