use Rattle.std.proofs.Common.{◌≡◌, ◌≤◌, ◌+◌, ◌++◌, map, length}
use Rattle.io_manager.proofs.Common.{deque_capacity, shown_label, unlabelled}
use Rattle.io_manager.proofs.completion.move_labels.Given as goal

abbrev pub invariant-loop-label : goal.invariant-loop-label
invariant-loop-label g l = record {
  moved : l.labels.items ++ map (shown_label (g.D.Shown.view l.device).rules.keeps_bytes) (g.D.Shown.view l.device).adapter.labels
      ≡ l.initial.labels.items ++ map (shown_label (g.D.Shown.view l.initial.device).rules.keeps_bytes) (g.D.Shown.view l.initial.device).adapter.labels;
  room : length l.labels.items + length (g.D.Shown.view l.device).adapter.labels ≤ deque_capacity l.labels;
  places : deque_capacity l.labels ≡ deque_capacity l.initial.labels;
  rest : unlabelled (g.D.Shown.view l.device) ≡ unlabelled (g.D.Shown.view l.initial.device);
}

abbrev pub decreases-loop-label : goal.decreases-loop-label
decreases-loop-label g l = length (g.D.Shown.view l.device).adapter.labels
