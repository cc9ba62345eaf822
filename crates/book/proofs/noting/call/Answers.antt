use Rattle.book.proofs.Keeping.{call_is_no_act, serves_keep}
use Rattle.book.proofs.noting.call.Goals as goal

pub returns-clause-kept : goal.returns-clause-kept
returns-clause-kept g c =
    let l = c.laws_of_entries.ensures in
    serves_keep l.kept l.apart l.stays g.N.TraceNaming.rules g.N.TraceNaming.start c.args.traced.now c.call-reply.new.self c.args.tags.now c.catch_up.new.tags c.len-from.result c.len-from.ensures c.catch_up.ensures
    c.args.share.now.client c.args.event c.call-reply.result c.call-reply.ensures.served (call_is_no_act c.args.event c.requires.call)
