use Rattle.std.proofs.Common.{◌≡◌, []}
use Rattle.lanes.specs.Queue.{fresh_worker, lanes_of}
use Rattle.lanes.proofs.lane_passes.Given as goal

abbrev pub invariant-loop : goal.invariant-loop
invariant-loop l =
    (l.worker.table_id ≡ l.queue.table.shared.table_id) × (l.worker.me.1 ≡ []) × (l.worker.me.0.client ≡ fresh_worker l.counter)
    × (l.passes.items ≡ lanes_of l.queue.table.shared.table_id l.counter)
