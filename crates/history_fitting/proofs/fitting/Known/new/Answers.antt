use Rattle.history_fitting.proofs.Opening.{nothing_open}
use Rattle.history_fitting.proofs.fitting.Known.new.Goals as goal

pub returns-clause-none : goal.returns-clause-none
returns-clause-none c = nothing_open c.new-opened.result c.new-opened.ensures.empty
