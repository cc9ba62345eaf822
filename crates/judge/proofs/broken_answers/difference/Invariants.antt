use Rattle.std.proofs.Common.{◌≡◌, ◌≤◌, ◌+◌, length, drop}
use Rattle.judge.specs.Ruling.{difference}
use Rattle.judge.proofs.broken_answers.difference.Given as goal

abbrev pub invariant-loop-place : goal.invariant-loop-place
invariant-loop-place l = record { within : l.place ≤ length l.told; same : difference l.first l.due l.told ≡ difference (l.first + l.place) (drop l.place l.due) (drop l.place l.told) }
