use Rattle.volume.proofs.Common.{◌≡◌, ◌≤◌, All, IsPermutation, IsBetween, Quietly, tags_out, work}
use Rattle.injection.specs.Rules.{left}
use Rattle.volume.proofs.Steps.{IsFrom}
use Rattle.volume.proofs.carrying.finish_one.Given as goal

-- no piece is on the tags so far
abbrev pub invariant-loop-tag : goal.invariant-loop-tag
invariant-loop-tag g l = record {
  quietly : Quietly l.initial.stack l.stack;
  between : IsBetween l.stack;
  same_depth : l.depth ≡ l.stack.rules.depth;
  free : All (IsFrom l.tag) (tags_out l.stack.state);
  same_tags : IsPermutation (tags_out l.initial.stack.state) (tags_out l.stack.state);
  same_work : work l.stack.state ≡ work l.initial.stack.state;
  no_more : left l.slowing.rules.items ≤ left l.initial.slowing.rules.items;
}
