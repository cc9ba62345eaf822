use Rattle.book.proofs.Common.{◌-◌, FollowsFrom, AreOnTags}
use Rattle.book.proofs.settling.settle_all.Given as goal

abbrev pub invariant-loop-place : goal.invariant-loop-place
invariant-loop-place g l = record {
  on_tags : AreOnTags l.fn.traced.stack.adapter l.tags;
  follows : FollowsFrom l.fn.traced.stack.adapter l.fn.traced.entries l.fn.from (l.place - l.fn.from) l.initial.journal l.journal;
}
