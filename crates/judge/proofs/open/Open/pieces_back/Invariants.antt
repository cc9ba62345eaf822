-- The pieces looked at so far.
use Rattle.std.proofs.Common.{◌≡◌, ◌-◌, length}
use Rattle.judge.specs.Views.{rules_of}
use Rattle.judge.proofs.Counting.{AreCounted}
use Rattle.judge.proofs.open.Open.pieces_back.Given as goal

abbrev pub invariant-loop-place : goal.invariant-loop-place
invariant-loop-place l =
    AreCounted (rules_of l.rules) l.self.marks l.place l.back × (l.count ≡ length l.self.marks) × (l.longest ≡ l.rules.max_transfer)

abbrev pub decreases-loop-place : goal.decreases-loop-place
decreases-loop-place l = l.count - l.place
