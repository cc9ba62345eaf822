use Rattle.serving.proofs.Common.{◌≡◌, [], work, Goes, over, shown_to}
use Rattle.serving.proofs.moving.drain.Given as goal

abbrev pub invariant-finishing : goal.invariant-finishing
invariant-finishing g l = record {
  goes : Goes (over (shown_to g.P.Pen.keeps l.initial.stack) l.initial.disk (g.P.Pen.trace l.initial.pen)) (over (shown_to g.P.Pen.keeps l.stack) l.disk (g.P.Pen.trace l.pen));
  taken : l.stack.labels ≡ [];
}

abbrev pub decreases-finishing : goal.decreases-finishing
decreases-finishing g l = work l.stack.state
