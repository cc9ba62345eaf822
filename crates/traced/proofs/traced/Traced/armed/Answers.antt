use Rattle.std.proofs.Common.{MatchOption, subst}
use Rattle.traced.proofs.Common.{HasNoneFresh, IsArmed, TracedView}
use Rattle.traced.proofs.traced.Traced.armed.Goals as goal

pub returns : goal.returns
returns g c = subst (λ (v : TracedView). MatchOption c.armed.result (HasNoneFresh v.stack.adapter c.args.tag) (λ found. IsArmed v.stack.adapter c.args.tag found.0 found.1.now)) c.self.view_is c.armed.ensures
