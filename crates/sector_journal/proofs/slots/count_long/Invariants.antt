use Rattle.sector_journal.proofs.Common.{◌≡◌, ◌≤◌, take, sum_by, one_if_long}
use Rattle.sector_journal.proofs.slots.count_long.Given as goal

abbrev pub invariant-loop-slot : goal.invariant-loop-slot
invariant-loop-slot l = record {
  few : l.count ≤ l.slot-index;
  counted : l.count ≡ sum_by (one_if_long l.fn.length) (take l.slot-index l.fn.slots);
}
