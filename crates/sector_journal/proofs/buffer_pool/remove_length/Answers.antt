use Rattle.sector_journal.proofs.Common.{rules, filter_same}
use Rattle.sector_journal.proofs.buffer_pool.remove_length.Goals as goal

pub returns : goal.returns
returns c = filter_same _ _ _ (λ x b f' k. search rules) _ _ c.retain.ensures.filtered
