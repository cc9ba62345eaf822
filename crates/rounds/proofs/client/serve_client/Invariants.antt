use Rattle.std.proofs.Common.{◌≡◌, ◌≤◌, ◌*◌}
use Rattle.rounds.specs.Tallies.{HasCounted}
use Rattle.rounds.proofs.client.serve_client.Given as goal

abbrev pub invariant-loop-j : goal.invariant-loop-j
invariant-loop-j g l = (l.client.client ≡ l.fn.client.client) × (l.tally.differing ≤ l.tally.answered) × (l.tally.answered ≤ 2 * l.j) × HasCounted l.j l.client l.tally
