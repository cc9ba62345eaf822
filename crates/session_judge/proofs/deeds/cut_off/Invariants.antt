use Rattle.std.proofs.Common.{◌≡◌, take}
use Rattle.judge.specs.Views.{rules_of}
use Rattle.session_judge.specs.Deeds.{cut_each}
use Rattle.session_judge.proofs.deeds.cut_off.Given as goal

-- those of the pieces so far
abbrev pub invariant-loop-piece : goal.invariant-loop-piece
invariant-loop-piece l = l.deeds.items ≡ cut_each (rules_of l.rules) l.machine (take l.piece-index l.machine.pieces)
