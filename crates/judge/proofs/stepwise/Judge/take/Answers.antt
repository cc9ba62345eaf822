use Rattle.std.proofs.Common.{Result}
use Rattle.std.specs.Prelude.{OnOk, IfErr, Ok, Err}
use Rattle.machine.specs.declared.Label.{Label}
use Rattle.judge.specs.Following.{JudgeView, Takes, TakesLine}
use Rattle.judge.specs.Judging.{plain}
use Rattle.judge.specs.Refusals.{IsRefusal, IsLineRefusal}
use Rattle.judge.specs.declared.stepwise.Refusal.{Refusal}
use Rattle.judge.specs.declared.stepwise.Refusal.TheVariants as refusal
use Rattle.judge.proofs.Plain.{takes_plain, refuses_plain}
use Rattle.judge.proofs.stepwise.Judge.take.Goals as goal

taken_so : {X : Type 0} (old new : JudgeView) (label : Label) (result : Result X Refusal) → OnOk result (TakesLine old (plain label) new) → OnOk result (Takes old label new)
taken_so old new label (Ok x) h = takes_plain old new label h
taken_so old new label (Err r) h = tt

refusal_so : (j : JudgeView) (label : Label) (r : Refusal) → IsLineRefusal j (plain label) r → IsRefusal j label r
refusal_so j label (refusal.Breaks rule) h = refuses_plain j label rule h
refusal_so j label (refusal.NoVerdict v) h = h

refused_so : {X : Type 0} (j : JudgeView) (label : Label) (result : Result X Refusal) → IfErr result (λ r. IsLineRefusal j (plain label) r) → IfErr result (λ r. IsRefusal j label r)
refused_so j label (Ok x) h = tt
refused_so j label (Err r) h = refusal_so j label r h

pub returns-clause-taken : goal.returns-clause-taken
returns-clause-taken c = taken_so c.args.self.now c.take_of-taken.new.self c.args.label.now c.take_of-taken.result c.take_of-taken.ensures.taken

pub returns-clause-refused : goal.returns-clause-refused
returns-clause-refused c = refused_so c.args.self.now c.args.label.now c.take_of-taken.result c.take_of-taken.ensures.refused
