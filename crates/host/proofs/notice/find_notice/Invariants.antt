use Rattle.host.proofs.Common.{◌≡◌, ◌<◌, ◌≤◌, ℕ, Some, false, slice_get, TraceEntry, is_notice}
use Rattle.host.proofs.notice.find_notice.Given as goal

abbrev pub invariant-loop-place : goal.invariant-loop-place
invariant-loop-place g l = record {
  start : l.initial.from ≤ l.place;
  none : (k : ℕ) (e : TraceEntry) → l.initial.from ≤ k → k < l.place → slice_get l.initial.book.traced.entries k ≡ Some e → is_notice l.initial.notice e.label ≡ false;
}
