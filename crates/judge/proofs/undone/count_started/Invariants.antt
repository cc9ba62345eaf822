-- The count so far.
use Rattle.std.proofs.Common.{◌≡◌, ◌≤◌, take}
use Rattle.std.specs.Prelude.{count_by}
use Rattle.machine.specs.Sending.{is_started}
use Rattle.judge.proofs.undone.count_started.Given as goal

abbrev pub invariant-loop-entry : goal.invariant-loop-entry
invariant-loop-entry l = record { counted : l.count ≡ count_by is_started (take l.entry-index l.requests); few : l.count ≤ l.entry-index }
