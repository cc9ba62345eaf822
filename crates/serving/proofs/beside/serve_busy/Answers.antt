use Rattle.serving.proofs.Whole.{asked, unasked}
use Rattle.serving.proofs.beside.serve_busy.Goals as goal

pub returns-in-Err : goal.returns-in-Err
returns-in-Err g c = unasked c.args.busy _ _ c.in-Err.end _ c.in-Err.ensures.ended c.outcome.ensures

pub returns : goal.returns
returns g c = asked c.makes_a_session.ensures c.args.busy c.begin.new.self c.serve_beside.new.desk _ _ _ _ _ c.in_default.ensures.same c.in_default.ensures.opened c.serve_beside.ensures c.outcome-2.ensures
