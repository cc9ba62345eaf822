use Rattle.compose.proofs.Armed.{booked_acts_tell}
use Rattle.compose.proofs.JournaledKept.{idle_acts_tell_nothing}
use Rattle.compose.proofs.laws.booked_acts_tell.Goals as goal

pub returns : goal.returns
returns c = record { booked = booked_acts_tell; idle = idle_acts_tell_nothing }
