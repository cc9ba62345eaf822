use Rattle.history_fitting.specs.Services.{rules_of}
use Rattle.history_judge.proofs.Visiting.{span_none}
use Rattle.history_judge.proofs.cells.span_of.Goals as goal

pub returns-in-None : goal.returns-in-None
returns-in-None c = span_none (rules_of c.args.service.now) c.args.request.now c.in-None.is
