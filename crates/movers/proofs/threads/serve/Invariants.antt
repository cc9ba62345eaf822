use Rattle.movers.specs.Moving.{MadeTasks}
use Rattle.movers.proofs.threads.serve.Given as goal

-- just tasks were carried out so far
abbrev pub invariant-loop : goal.invariant-loop
invariant-loop g l = MadeTasks l.fn.disk l.disk
