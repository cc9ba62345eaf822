use Rattle.history_judge.proofs.Stopping.{whole_first}
use Rattle.history_judge.proofs.recorded.Fitted.new.Goals as goal

pub returns-clause-whole : goal.returns-clause-whole
returns-clause-whole c = whole_first _ c.requires c.none.ensures c.none-2.ensures c.new.ensures.calls c.new.ensures.owed c.new.ensures.none (c.new-2.ensures c.args.basis.start.any c.args.basis.start.bytes)
