use Rattle.lanes.proofs.Laws.{in_order}
use Rattle.lanes.proofs.in_order.Goals as goal

pub returns : goal.returns
returns c = in_order
