use Rattle.sector_journal.proofs.Common.{sym, ap, ◌∙◌, SizeClassView}
use Rattle.sector_journal.proofs.SizeClasses.{booked, free_pieces, is_there_in, put_more_in, kept_count_in, came_back_in}
use Rattle.sector_journal.proofs.buffer_pool.BufferPool.put.Goals as goal

pub put-requires : goal.put-requires
put-requires c =
    let there = is_there_in c.self.inside.classes.items c.args.self.now c.len.result c.in-Some.at c.index_mut.result.now c.self.view_is (sym c.find.ensures ∙ c.in-Some.is) c.index_mut.ensures.value in
    sym c.len.ensures ∙ sym there.1

pub returns-in-Some-clause-no_less : goal.returns-in-Some-clause-no_less
returns-in-Some-clause-no_less c =
    let there = is_there_in c.self.inside.classes.items c.args.self.now c.len.result c.in-Some.at c.index_mut.result.now c.self.view_is (sym c.find.ensures ∙ c.in-Some.is) c.index_mut.ensures.value in
    put_more_in free_pieces c.self.inside.classes.items c.args.self.now c.in-Some.at c.index_mut.result.now c.put.new.self c.self.view_is there.0 c.index_mut.ensures.value (ap (λ (r : SizeClassView). r.bytes) c.put.ensures.same) c.put.ensures.no_less

pub returns-in-Some-clause-booked : goal.returns-in-Some-clause-booked
returns-in-Some-clause-booked c =
    kept_count_in booked c.self.inside.classes.items c.args.self.now c.len.result c.in-Some.at c.index_mut.result.now c.put.new.self c.self.view_is (sym c.find.ensures ∙ c.in-Some.is) c.index_mut.ensures.value
    (ap (λ (r : SizeClassView). r.bytes) c.put.ensures.same) (ap (λ (r : SizeClassView). r.promised) c.put.ensures.same)

pub returns-in-Some-clause-back : goal.returns-in-Some-clause-back
returns-in-Some-clause-back c =
    rw (sym c.len.ensures)
    (came_back_in c.self.inside.classes.items c.args.self.now c.len.result c.in-Some.at c.index_mut.result.now c.put.new.self c.self.view_is (sym c.find.ensures ∙ c.in-Some.is) c.index_mut.ensures.value
    (ap (λ (r : SizeClassView). r.bytes) c.put.ensures.same) c.put.ensures.back)
