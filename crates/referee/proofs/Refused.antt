-- What a judge refuses is why a line isn't taken.
use Rattle.std.proofs.Common.{◌≡◌, subst, sym}
use Rattle.trace_line.specs.declared.Line.{Line}
use Rattle.judge.specs.Following.{JudgeView}
use Rattle.judge.specs.Refusals.{IsLineRefusal, Keeps}
use Rattle.judge.specs.declared.NoVerdict.TheVariants.{NoMemory, Readings}
use Rattle.judge.specs.declared.stepwise.Refusal.{Refusal}
use Rattle.judge.specs.declared.stepwise.Refusal.TheVariants.{Breaks, NoVerdict}
use Rattle.referee.specs.declared.why.Why.{Why}
use Rattle.referee.specs.Taking.{IsWhy, why_by}

refused_by : (old new : JudgeView) (line : Line) (refusal : Refusal) → IsLineRefusal old line refusal → Keeps old refusal new → IsWhy old line (why_by refusal) new
refused_by old new line (Breaks rule) refuses same = (refuses, same)
refused_by old new line (NoVerdict NoMemory) why kept = tt
refused_by old new line (NoVerdict (Readings readings)) why kept = why

pub refused : (old new : JudgeView) (line : Line) (refusal : Refusal) (why : Why) → why ≡ why_by refusal → IsLineRefusal old line refusal → Keeps old refusal new
    → IsWhy old line why new
refused old new line refusal why is refuses kept = subst (λ (w : Why). IsWhy old line w new) (sym is) (refused_by old new line refusal refuses kept)
