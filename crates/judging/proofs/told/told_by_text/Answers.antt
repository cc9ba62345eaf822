use Rattle.std.proofs.Common.{◌≡◌, IfOk, subst}
use Rattle.label_text.specs.Lines.{Spells}
use Rattle.label_text.specs.declared.LineFault.TheVariants.{NoMemory}
use Rattle.judging.specs.inside.Telling.{Tells}
use Rattle.judging.proofs.told.told_by_text.Goals as goal

pub told_by_gap-requires-clause-none : goal.told_by_gap-requires-clause-none
told_by_gap-requires-clause-none c = λ other spells.
    let here : Spells c.args.line.now other = subst (λ t. Spells t other) c.as_bytes.ensures.value spells in
    let unread : c.in-Err-BadWord.field-0 ≡ NoMemory = c.in-Err-BadWord.ensures.again other here in
    cc (unread, c.in-Err-BadWord.field-0-is)

pub returns-in-Err-BadWord-clause-told : goal.returns-in-Err-BadWord-clause-told
returns-in-Err-BadWord-clause-told c = subst (λ t. IfOk c.told_by_gap.result (Tells t)) c.as_bytes.ensures.value c.told_by_gap.ensures.told
