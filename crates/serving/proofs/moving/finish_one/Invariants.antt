use Rattle.serving.proofs.Common.{◌≡◌, [], All, tags_out, work, IsFrom, Goes, over, shown_to}
use Rattle.serving.proofs.moving.finish_one.Given as goal

-- no piece is on the tags so far
abbrev pub invariant-loop-tag : goal.invariant-loop-tag
invariant-loop-tag g l = record {
  goes : Goes (over (shown_to g.P.Pen.keeps l.initial.stack) l.initial.disk (g.P.Pen.trace l.initial.pen)) (over (shown_to g.P.Pen.keeps l.stack) l.disk (g.P.Pen.trace l.pen));
  taken : l.stack.labels ≡ [];
  same_depth : l.depth ≡ l.stack.rules.depth;
  free : All (IsFrom l.tag) (tags_out l.stack.state);
  same_work : work l.stack.state ≡ work l.initial.stack.state;
}
