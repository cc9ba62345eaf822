use Rattle.book.proofs.Keeping.{looks_keep}
use Rattle.book.proofs.noting.look.Goals as goal

pub returns-clause-kept : goal.returns-clause-kept
returns-clause-kept g c =
    let l = c.laws_of_entries.ensures in
    looks_keep l.kept l.apart l.stays g.N.TraceNaming.rules g.N.TraceNaming.start c.args.traced.now c.look.new.self c.args.tags.now c.catch_up.new.tags c.len-from.result c.len-from.ensures c.catch_up.ensures
    g.N.TraceNaming.slots c.look.ensures.looked
