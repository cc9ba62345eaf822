use Rattle.serving.proofs.Common.{quiet}
use Rattle.serving.proofs.Siding.{comes_more}
use Rattle.serving.proofs.elsewhere.comes_back.Goals as goal

pub returns-clause-comes : goal.returns-clause-comes
returns-clause-comes c = comes_more (quiet c.args.stack.now) (quiet c.acts.new.stack) (quiet c.finishes.new.stack) c.args.tag c.acts.ensures.acts c.finishes.ensures.back c.finishes.ensures.stands
