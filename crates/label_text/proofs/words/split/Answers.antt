use Rattle.label_text.proofs.Parting.{first_part, one_part}
use Rattle.label_text.proofs.words.split.Goals as goal

pub returns-in-Some : goal.returns-in-Some
returns-in-Some c = first_part c.args.separator c.args.text.now c.in-Some.part.now c.in-Some.behind.now (c.in-Some.ensures.byte c.requires (λ t o h. h))

pub returns-in-None : goal.returns-in-None
returns-in-None c = one_part c.args.separator c.args.text.now (c.in-None.ensures.byte c.requires (λ t o h. h))
