use Rattle.std.proofs.Common.{◌≡◌, All, IsTrue, take}
use Rattle.label_text.proofs.runs.are_all.Given as goal

-- the bytes so far are all this one, if it is said of them
abbrev pub invariant-loop-b : goal.invariant-loop-b
invariant-loop-b l = IsTrue l.same → All (λ b. b ≡ l.byte) (take l.b-index l.bytes)
