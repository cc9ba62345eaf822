-- The numbers so far.
use Rattle.std.proofs.Common.{◌≡◌, take, map}
use Rattle.machine.specs.Numbers.{request_number}
use Rattle.judge.proofs.holding.numbers_of.Given as goal

abbrev pub invariant-loop-entry : goal.invariant-loop-entry
invariant-loop-entry l = l.numbers.items ≡ map request_number (take l.entry-index l.requests)
