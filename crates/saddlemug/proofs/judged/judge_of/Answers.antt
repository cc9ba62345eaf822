use Rattle.std.proofs.Common.{sym, ◌∙◌}
use Rattle.saddlemug.proofs.Failing.{stack_fails}
use Rattle.saddlemug.proofs.judged.judge_of.Goals as goal

pub returns-in-Err-clause-fault : goal.returns-in-Err-clause-fault
returns-in-Err-clause-fault c = λ e. stack_fails c.args.config.now c.in-Err.fault c.in-Err.ensures.fault (sym c.start_status.ensures ∙ e)
