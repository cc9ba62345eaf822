use Rattle.sector_journal.proofs.Common.{sym, ap, ◌∙◌, SizeClassView}
use Rattle.sector_journal.proofs.SizeClasses.{booked, free_pieces, made_less_in}
use Rattle.sector_journal.proofs.buffer_pool.BufferPool.forget.Goals as goal

pub returns-in-Some-clause-dropped : goal.returns-in-Some-clause-dropped
returns-in-Some-clause-dropped c =
    made_less_in free_pieces c.self.inside.classes.items c.args.self.now c.args.buffers.length c.in-Some.at c.index_mut.result.now c.forget.new.self c.args.buffers.pieces c.self.view_is (sym c.find.ensures ∙ c.in-Some.is)
    c.index_mut.ensures.value (ap (λ (r : SizeClassView). r.bytes) c.forget.ensures) (ap (λ (r : SizeClassView). r.pieces) c.forget.ensures)

pub returns-in-Some-clause-booked : goal.returns-in-Some-clause-booked
returns-in-Some-clause-booked c =
    made_less_in booked c.self.inside.classes.items c.args.self.now c.args.buffers.length c.in-Some.at c.index_mut.result.now c.forget.new.self c.args.buffers.pieces c.self.view_is (sym c.find.ensures ∙ c.in-Some.is)
    c.index_mut.ensures.value (ap (λ (r : SizeClassView). r.bytes) c.forget.ensures) (ap (λ (r : SizeClassView). r.promised) c.forget.ensures)
