-- The sectors so far, and those of what is left.
use Rattle.std.proofs.Common.{◌≡◌, ◌++◌, ◌-◌}
use Rattle.judge.specs.Deciding.{chunked}
use Rattle.judge.proofs.sectors.chunked.Given as goal

abbrev pub invariant-loop : goal.invariant-loop
invariant-loop l = l.sectors.items ++ chunked (l.count - l.counter) l.size l.rest ≡ chunked l.count l.size l.bytes
