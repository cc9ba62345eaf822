use Rattle.movers.proofs.Orders.{calls_change}
use Rattle.movers.proofs.laws.calls_change.Goals as goal

pub returns : goal.returns
returns c = calls_change
