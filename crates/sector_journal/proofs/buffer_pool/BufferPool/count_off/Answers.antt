use Rattle.sector_journal.proofs.Common.{ap, SizeClassView}
use Rattle.sector_journal.proofs.SizeClasses.{booked, made_less_in, others_kept_in, still_there_in, trimmed_in}
use Rattle.sector_journal.proofs.buffer_pool.BufferPool.count_off.Goals as goal

pub returns-clause-there : goal.returns-clause-there
returns-clause-there c =
    still_there_in c.self.inside.classes.items c.args.self.now c.args.buffers.length c.args.at c.index_mut.result.now c.withdraw.new.self c.self.view_is c.requires c.index_mut.ensures.value (ap (λ (r : SizeClassView). r.bytes) c.withdraw.ensures)

pub returns-clause-booked : goal.returns-clause-booked
returns-clause-booked c =
    made_less_in booked c.self.inside.classes.items c.args.self.now c.args.buffers.length c.args.at c.index_mut.result.now c.withdraw.new.self c.args.buffers.pieces c.self.view_is c.requires
    c.index_mut.ensures.value (ap (λ (r : SizeClassView). r.bytes) c.withdraw.ensures) (ap (λ (r : SizeClassView). r.promised) c.withdraw.ensures)

pub returns-clause-trimmed : goal.returns-clause-trimmed
returns-clause-trimmed c =
    trimmed_in c.self.inside.classes.items c.args.self.now c.args.buffers.length c.args.at c.args.buffers.pieces c.args.out c.index_mut.result.now c.withdraw.new.self c.self.view_is c.requires c.index_mut.ensures.value c.withdraw.ensures

pub returns-clause-others : goal.returns-clause-others
returns-clause-others c =
    others_kept_in c.self.inside.classes.items c.args.self.now c.args.buffers.length c.args.at c.index_mut.result.now c.withdraw.new.self c.self.view_is c.requires c.index_mut.ensures.value (ap (λ (r : SizeClassView). r.bytes) c.withdraw.ensures)
