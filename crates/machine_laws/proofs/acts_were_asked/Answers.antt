use Rattle.machine_laws.proofs.Asked.{acts_were_asked}
use Rattle.machine_laws.proofs.acts_were_asked.Goals as goal

pub returns : goal.returns
returns c = acts_were_asked
