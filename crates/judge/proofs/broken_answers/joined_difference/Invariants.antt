use Rattle.std.proofs.Common.{◌≡◌, ◌≤◌, ◌-◌, length, drop}
use Rattle.judge.specs.Ruling.{difference}
use Rattle.judge.specs.Views.{joined_marks}
use Rattle.judge.proofs.broken_answers.joined_difference.Given as goal

abbrev pub invariant-loop-place : goal.invariant-loop-place
invariant-loop-place l = record {
  within : length l.rest ≤ length l.told;
  same : difference 0 (joined_marks l.marks) l.told ≡ difference (length l.told - length l.rest) (joined_marks (drop l.place-index l.marks)) l.rest;
}
