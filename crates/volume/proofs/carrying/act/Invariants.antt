use Rattle.volume.proofs.Common.{◌≡◌, IsPermutation, IsBetween, Quietly, fresh_count, tags_out, work}
use Rattle.volume.proofs.carrying.act.Given as goal

-- nothing but acts on the tag has happened
abbrev pub invariant-acting : goal.invariant-acting
invariant-acting g l = record {
  quietly : Quietly l.initial.stack l.stack;
  between : IsBetween l.stack;
  same_tags : IsPermutation (tags_out l.initial.stack.state) (tags_out l.stack.state);
  same_work : work l.stack.state ≡ work l.initial.stack.state;
}

abbrev pub decreases-acting : goal.decreases-acting
decreases-acting g l = fresh_count l.stack.state
