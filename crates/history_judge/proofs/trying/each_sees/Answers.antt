use Rattle.std.proofs.Common.{◌≡◌, ◌≤◌, ◌∷◌, [], ◌∙◌, sym, subst, arith, length}
use Rattle.std.proofs.lemmas.List.{with_items_is}
use Rattle.history_judge.specs.inside.Cells.{AllSee}
use Rattle.history_judge.proofs.Celling.{saw_all}
use Rattle.history_judge.proofs.trying.each_sees.Goals as goal

pub returns : goal.returns
returns c =
    let old = c.args.tries.now in
    let new = c.loop-one.one-items in
    let whole : length new ≡ old.len = c.loop-one.invariant.same_length ∙ sym old.ok.0 in
    let end : length old.items ≤ c.loop-one.one-index = omega (arith, c.loop-one-test.false, c.loop-one.invariant.same_length) in
    subst (AllSee (c.args.given.now.sight ∷ []) old.items) (sym (with_items_is old new whole)) (saw_all c.args.given.now.sight old.items new c.loop-one.one-index end c.loop-one.invariant)
