use Rattle.std.specs.Prelude.{None}
use Rattle.history_fitting.proofs.Opening.{puts_by}
use Rattle.history_fitting.proofs.fitting.close_open.Goals as goal

pub returns : goal.returns
returns c = puts_by c.args.opened.now c.remove.new.self c.args.number None c.remove.ensures.updates.1 c.remove.ensures.updates.2
