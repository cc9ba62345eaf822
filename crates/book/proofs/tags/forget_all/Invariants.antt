use Rattle.book.proofs.Common.{◌≡◌, ◌≤◌, ◌<◌, ℕ, length, Forgets, claimed_at}
use Rattle.book.proofs.tags.forget_all.Given as goal

abbrev pub invariant-loop-at : goal.invariant-loop-at
invariant-loop-at g l = record {
  as_many : length l.slots ≡ length l.initial.slots;
  each : (tag : ℕ) → tag < l.at → Forgets l.fn.piece (claimed_at l.initial.slots tag) (claimed_at l.slots tag);
  left : (tag : ℕ) → l.at ≤ tag → claimed_at l.slots tag ≡ claimed_at l.initial.slots tag;
}
