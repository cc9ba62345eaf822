use Rattle.port.proofs.Sound.{vacant_in}
use Rattle.port.proofs.queues.Queues.push.Goals as goal

pub push_back_at-requires-clause-vacant : goal.push_back_at-requires-clause-vacant
push_back_at-requires-clause-vacant c = vacant_in _ _ c.requires.apart
