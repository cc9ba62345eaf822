use Rattle.history_loss_sector.proofs.Gathering.{rest_is}
use Rattle.history_loss_sector.proofs.merging.rest_of.Goals as goal

pub returns : goal.returns
returns c = rest_is c.args.shared.now c.split_at.result.1.now c.args.taken c.min-from.result c.min-from.ensures c.split_at.ensures.back
