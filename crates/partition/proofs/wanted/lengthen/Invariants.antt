use Rattle.partition.proofs.Common.{◌≡◌, ◌-◌, ◌+◌, ℕ, length, vec_capacity, wanted_at, wanted_by}
use Rattle.partition.proofs.wanted.lengthen.Given as goal

abbrev pub invariant-loop-wanted : goal.invariant-loop-wanted
invariant-loop-wanted l = record {
  same : (at : ℕ) → wanted_at (wanted_by l.wanted.items (vec_capacity l.wanted)) at ≡ wanted_at (wanted_by l.fn.wanted.items (vec_capacity l.fn.wanted)) at;
}

abbrev pub decreases-loop-wanted : goal.decreases-loop-wanted
decreases-loop-wanted l = l.spot + 1 - length l.wanted.items
