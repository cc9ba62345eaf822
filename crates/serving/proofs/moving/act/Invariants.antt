use Rattle.serving.proofs.Common.{◌≡◌, [], IsPermutation, fresh_count, tags_out, work, Goes, over, shown_to}
use Rattle.serving.proofs.moving.act.Given as goal

abbrev pub invariant-acting : goal.invariant-acting
invariant-acting g l = record {
  goes : Goes (over (shown_to g.P.Pen.keeps l.initial.stack) l.initial.disk (g.P.Pen.trace l.initial.pen)) (over (shown_to g.P.Pen.keeps l.stack) l.disk (g.P.Pen.trace l.pen));
  taken : l.stack.labels ≡ [];
  same_tags : IsPermutation (tags_out l.initial.stack.state) (tags_out l.stack.state);
  same_work : work l.stack.state ≡ work l.initial.stack.state;
}

abbrev pub decreases-acting : goal.decreases-acting
decreases-acting g l = fresh_count l.stack.state
