use Rattle.std.proofs.Common.{refl}
use Rattle.history_loss_judge.proofs.Whole.{whole_first}
use Rattle.history_loss_judge.proofs.recorded.Fitted.new.Goals as goal

pub returns-clause-whole : goal.returns-clause-whole
returns-clause-whole c =
    whole_first _ c.requires c.none.ensures refl c.new.ensures.calls c.new.ensures.owed c.new.ensures.none c.new-2.ensures.shared c.new-2.ensures.none (c.new-3.ensures c.args.basis.start)
