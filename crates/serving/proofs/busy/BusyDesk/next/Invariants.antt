use Rattle.serving.proofs.Common.{None}
use Rattle.serving.specs.inside.Busy.{Steps}
use Rattle.serving.proofs.busy.BusyDesk.next.Given as goal

-- nothing was read or told so far
abbrev pub invariant-loop : goal.invariant-loop
invariant-loop g l = Steps l.initial.self None l.self
