use Rattle.std.proofs.Common.{◌≡◌, ◌∷◌, ◌++◌, [], sym, ◌∙◌, ap, subst, arith, length}
use Rattle.std.specs.Global.{Vec}
use Rattle.history_judge.specs.declared.waits.Marked.{Marked}
use Rattle.history_judge.specs.inside.Cells.{IsCell}
use Rattle.history_judge.proofs.Celling.{on_two, cell_given, no_waits}
use Rattle.history_judge.proofs.cell.Cell.add.Goals as goal

pub returns-in-Known : goal.returns-in-Known
returns-in-Known c = λ any start waits h.
    let old = c.args.self.now in
    let new = c.give.new.self in
    let some : old.tries.items ≡ [] → ⊥ = λ e. let none : length old.tries.items ≡ 0 = ap length e in absurd (grind (arith, c.is_empty.ensures, c.if-is_empty.false, none)) in
    let empty : length old.waits.items ≡ 0 = grind (arith, c.is_empty-2.ensures, c.if-not-is_empty.false) in
    let none : old.waits.items ≡ [] = no_waits old.waits.items empty in
    on_two c.give.result (λ sees seen_is.
    subst (λ w. IsCell any start (waits ++ w ∷ []) new) (sym c.in-Known.is)
    (cell_given any start waits old new c.in-Known.sight h some none (ap (λ (ws : Vec Marked). ws.items) c.give.ensures.waits ∙ none) seen_is sees)) c.give.ensures.tries c.give.ensures.seen
