use Rattle.std.proofs.Common.{rules}
use Rattle.judging.proofs.Gaps.{no_text}
use Rattle.judging.proofs.told.told_by_gap.Goals as goal

pub returns-in-Err-clause-told : goal.returns-in-Err-clause-told
returns-in-Err-clause-told c = no_text c.args.line.now c.in-Some.front.now c.in-Some.ensures c.requires.text (search rules)
