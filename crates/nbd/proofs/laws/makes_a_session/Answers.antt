use Rattle.nbd.proofs.Desking.{makes_a_session}
use Rattle.nbd.proofs.laws.makes_a_session.Goals as goal

pub returns : goal.returns
returns c = makes_a_session
