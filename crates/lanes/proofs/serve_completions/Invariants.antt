use Rattle.lanes.specs.Queue.{HasTaken, IsWorker}
use Rattle.lanes.proofs.serve_completions.Given as goal

abbrev pub invariant-loop : goal.invariant-loop
invariant-loop g l = IsWorker l.completions.id l.pass × HasTaken l.initial.pass.view l.pass.view
