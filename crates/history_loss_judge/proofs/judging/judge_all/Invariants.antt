use Rattle.std.proofs.Common.{◌≡◌, List, ℕ, take}
use Rattle.register.specs.Values.{code}
use Rattle.history_loss_judge.specs.inside.Judging.{IsRightOf}
use Rattle.history_loss_judge.specs.inside.Lines.{lines_in}
use Rattle.history_loss_judge.proofs.judging.judge_all.Given as goal

-- the verdict is right of the sectors so far
abbrev pub invariant-loop-sector : goal.invariant-loop-sector
invariant-loop-sector l = (start : List ℕ) → l.fitted.basis.start ≡ code start → IsRightOf l.fitted.basis.service start (lines_in l.fitted.lines.items) (take l.sector-index l.sectors) l.verdict
