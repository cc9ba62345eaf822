use Rattle.sector_journal.proofs.Counting.{one_more_fits}
use Rattle.sector_journal.proofs.slots.Slots.put.Goals as goal

pub overflow_add-self : goal.overflow_add-self
overflow_add-self c = one_more_fits _ c.self.inside.armed _ c.self.invariant.counted c.self.inside.tags.ok.0 c.self.invariant.few
