use Rattle.book.proofs.Common.{rules}
use Rattle.book.proofs.Taking.{known_taken}
use Rattle.book.proofs.booking.is_known.Goals as goal

pub returns-clause-known : goal.returns-clause-known
returns-clause-known g c = λ yes.
    known_taken g.N.TraceNaming.rules c.args.traced.now.stack.adapter c.args.journal.now c.args.tags.now c.args.number c.tag_of-tag.result c.requires.on_tags (search rules) c.tag_of-tag.ensures (c.is_of.ensures.of_this yes)
