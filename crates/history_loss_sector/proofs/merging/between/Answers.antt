use Rattle.history_loss_sector.proofs.Gathering.{front_is}
use Rattle.history_loss_sector.proofs.merging.between.Goals as goal

pub returns : goal.returns
returns c = front_is c.rest_of-rest.result.now c.split_at.result.0.now _ _ c.saturating_sub.result c.min-count.result c.saturating_sub.ensures c.min-count.ensures c.split_at.ensures.front c.rest_of-rest.ensures
