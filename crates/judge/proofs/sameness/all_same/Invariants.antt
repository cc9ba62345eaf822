use Rattle.std.proofs.Common.{◌≡◌, length, take}
use Rattle.judge.proofs.sameness.all_same.Given as goal

abbrev pub invariant-loop-i : goal.invariant-loop-i
invariant-loop-i g l = record { same_length : length l.a ≡ length l.b; same : take l.i l.a ≡ take l.i l.b }
