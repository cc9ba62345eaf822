use Rattle.std.proofs.Common.{inr, rules}
use Rattle.saddlemug.proofs.judged.tell.Goals as goal

pub returns-in-Err : goal.returns-in-Err
returns-in-Err c = inr (search rules)
