use Rattle.script.proofs.Common.{◌∷◌, ◌∙◌, ap, sym, lines, strip_carriage_return}
use Rattle.script.proofs.Cuts.{first_of_more, only_line}
use Rattle.script.proofs.orders.cuts.first_line.Goals as goal

pub returns-in-Some-clause-first : goal.returns-in-Some-clause-first
returns-in-Some-clause-first c =
    first_of_more c.args.text.now c.in-Some.ensures.2
    ∙ (λ i. strip_carriage_return (sym c.in-Some.ensures.0 i) ∷ lines (sym c.in-Some.ensures.1 i))
    ∙ ap (λ line. line ∷ lines c.in-Some.behind.now) (sym c.without_return.ensures)

pub returns-in-None-clause-first : goal.returns-in-None-clause-first
returns-in-None-clause-first c = only_line c.args.text.now c.requires c.in-None.ensures
