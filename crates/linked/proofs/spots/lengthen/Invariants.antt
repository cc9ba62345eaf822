use Rattle.std.proofs.Common.{◌≡◌, ◌⊎◌, ◌≤◌, ◌-◌, ◌+◌, None, is_some, length, count_by, slice_index_or}
use Rattle.linked.proofs.spots.lengthen.Given as goal

abbrev pub invariant-loop-slots : goal.invariant-loop-slots
invariant-loop-slots g l = record {
  no_more : (length l.slots.items ≡ length l.fn.slots.items) ⊎ (length l.slots.items ≤ l.spot + 1);
  longer : length l.fn.slots.items ≤ length l.slots.items;
  count : count_by is_some l.slots.items ≡ count_by is_some l.fn.slots.items;
  same : (k : _) → slice_index_or l.slots.items k None ≡ slice_index_or l.fn.slots.items k None;
}

abbrev pub decreases-loop-slots : goal.decreases-loop-slots
decreases-loop-slots g l = l.spot + 1 - length l.slots.items
