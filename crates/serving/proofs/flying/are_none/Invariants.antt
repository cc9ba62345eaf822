use Rattle.std.proofs.Common.{take}
use Rattle.std.specs.Prelude.{All, IsNone}
use Rattle.serving.proofs.flying.are_none.Given as goal

-- none is noted so far
abbrev pub invariant-loop-at : goal.invariant-loop-at
invariant-loop-at l = record { none : All IsNone (take l.at l.places) }
