use Rattle.sector_journal.proofs.Common.{◌+◌, ap, ◌∙◌, of_length, SizeClassView}
use Rattle.sector_journal.proofs.SizeClasses.{booked, free_pieces, made_more_in, on_made}
use Rattle.sector_journal.proofs.buffer_pool.BufferPool.promise.Goals as goal

pub returns-clause-made : goal.returns-clause-made
returns-clause-made c =
    on_made c.promise.result
    (λ made long.
    made_more_in free_pieces c.self.inside.classes.items c.find_or_add.new.self c.args.buffers.length c.in_ok-at.at c.index_mut.result.now c.promise.new.self c.args.buffers.pieces c.self.view_is c.in_ok-at.ensures.found
    c.index_mut.ensures.value (ap (λ (r : SizeClassView). r.bytes) made) (ap (λ (r : SizeClassView). r.pieces) made) long
    ∙ ap (λ n. n + of_length c.args.buffers.pieces c.args.buffers.length long) (c.find_or_add.ensures.same long))
    c.promise.ensures.made

pub returns-clause-booked : goal.returns-clause-booked
returns-clause-booked c =
    on_made c.promise.result
    (λ made long.
    made_more_in booked c.self.inside.classes.items c.find_or_add.new.self c.args.buffers.length c.in_ok-at.at c.index_mut.result.now c.promise.new.self c.args.buffers.pieces c.self.view_is c.in_ok-at.ensures.found
    c.index_mut.ensures.value (ap (λ (r : SizeClassView). r.bytes) made) (ap (λ (r : SizeClassView). r.promised) made) long
    ∙ ap (λ n. n + of_length c.args.buffers.pieces c.args.buffers.length long) (c.find_or_add.ensures.booked long))
    c.promise.ensures.made
