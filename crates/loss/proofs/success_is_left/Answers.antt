use Rattle.loss.proofs.Requested.{flush_is_left, own_is_brought, success_is_left, success_is_read, through_is_left}
use Rattle.loss.proofs.success_is_left.Goals as goal

pub returns : goal.returns
returns c = record { read = success_is_read; through = through_is_left; flush = flush_is_left; all = success_is_left; own = own_is_brought }
