use Rattle.std.proofs.Common.{◌∙◌, sym}
use Rattle.history_fitting.specs.Services.{rules_of}
use Rattle.history_judge.proofs.Visiting.{span_some, span_still}
use Rattle.history_judge.proofs.cells.span_in.Goals as goal

pub returns-in-Some : goal.returns-in-Some
returns-in-Some c = (c.in-Some.ensures.fits, span_some (rules_of c.args.service.now) c.args.request.now c.args.partition c.in-Some.extent c.requires.asked c.in-Some.ensures.exact)

pub returns-in-None : goal.returns-in-None
returns-in-None c = span_still (rules_of c.args.service.now) c.args.request.now (sym c.in-None.is ∙ c.moved.ensures.exact)
