use Rattle.std.proofs.Common.{◌≡◌, List, ℕ, take}
use Rattle.register.specs.Values.{code}
use Rattle.history_judge.specs.inside.Judging.{IsRightOf}
use Rattle.history_judge.proofs.judging.judge_all.Given as goal

-- the verdict is right of the sectors so far
abbrev pub invariant-loop-place : goal.invariant-loop-place
invariant-loop-place l = (start : List ℕ) → l.fitted.basis.start.bytes ≡ code start → IsRightOf l.fitted.basis.start.any l.fitted.basis.service start l.fitted.gaps.items l.fitted.labels.items (take l.place-index l.places) l.verdict
