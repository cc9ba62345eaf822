use Rattle.book.proofs.Keeping.{noted_since, serves_keep}
use Rattle.book.proofs.noting.serve.Goals as goal

pub returns-clause-noted : goal.returns-clause-noted
returns-clause-noted g c =
    let l = c.laws_of_entries.ensures in
    noted_since l.kept l.apart l.stays g.N.TraceNaming.rules g.N.TraceNaming.start c.args.traced.now c.serve-reply.new.self c.args.tags.now c.catch_up.new.tags c.len-from.result c.len-from.ensures c.catch_up.ensures

pub returns-clause-kept : goal.returns-clause-kept
returns-clause-kept g c other =
    let l = c.laws_of_entries.ensures in
    serves_keep l.kept l.apart l.stays g.N.TraceNaming.rules g.N.TraceNaming.start c.args.traced.now c.serve-reply.new.self c.args.tags.now c.catch_up.new.tags c.len-from.result c.len-from.ensures c.catch_up.ensures
    0 c.args.event c.serve-reply.result c.serve-reply.ensures.served other
