use Rattle.std.proofs.Common.{rules, ◌≡◌, None, refl, sym, ◌∙◌}
use Rattle.sector_journal.proofs.SizeClasses.{booked, none_there, free_pieces, kept_count_in, still_promised, taken_in}
use Rattle.sector_journal.proofs.buffer_pool.BufferPool.take.Goals as goal

pub returns-in_err-at-clause-taken : goal.returns-in_err-at-clause-taken
returns-in_err-at-clause-taken c =
    let given : c.from_residual.result ≡ None = search rules in
    let none : c.find.result ≡ None = search rules in
    rw given (none_there free_pieces c.args.self.now c.args.length (sym c.find.ensures ∙ none), refl)

pub returns-clause-taken : goal.returns-clause-taken
returns-clause-taken c =
    taken_in c.self.inside.classes.items c.args.self.now c.args.length c.in_ok-at.at c.index_mut.result.now c.take.new.self c.take.result c.self.view_is (sym c.find.ensures ∙ c.in_ok-at.was) c.index_mut.ensures.value c.take.ensures

pub returns-clause-booked : goal.returns-clause-booked
returns-clause-booked c =
    let still = still_promised c.index_mut.result.now c.take.new.self c.take.result c.take.ensures in
    kept_count_in booked c.self.inside.classes.items c.args.self.now c.args.length c.in_ok-at.at c.index_mut.result.now c.take.new.self c.self.view_is (sym c.find.ensures ∙ c.in_ok-at.was) c.index_mut.ensures.value
    still.0 still.1
