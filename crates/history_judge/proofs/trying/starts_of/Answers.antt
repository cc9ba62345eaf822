use Rattle.std.proofs.Common.{◌≡◌, ◌<◌, ◌≤◌, get_or, true, refl, sym, ◌∙◌, ap, subst}
use Rattle.history_judge.specs.inside.Cells.{sights_in}
use Rattle.history_judge.specs.inside.Starting.{TakesStart}
use Rattle.history_judge.proofs.Celling.{sight_at, sights_length}
use Rattle.history_judge.proofs.Begun.{starts_more, starts_over, starts_all}
use Rattle.history_judge.proofs.trying.starts_of.Goals as goal

pub returns-then-not-branch : goal.returns-then-not-branch
returns-then-not-branch c =
    let given = c.args.given.now in
    let i = c.loop-one.one-index in
    let item = c.one-item.result in
    let at : item.sight ≡ get_or (sights_in given) i item.sight = ap (λ g. g.sight) c.one-item.is ∙ sight_at given i item item.sight c.loop-one-test.true in
    starts_over c.args.first.now (sights_in given) i item.sight c.loop-one.blanks.items c.loop-one.values.items c.take_start.new.blanks.items (record { values = c.take_start.new.values; over = true }) c.in_ok-take_start.field-0
    (subst (λ n. i < n) (sym (sights_length given)) c.loop-one-test.true) c.loop-one.invariant
    (subst (λ s. TakesStart c.loop-one.blanks.items c.loop-one.values.items s c.take_start.new.blanks.items c.take_start.new.values.items c.in_ok-take_start.field-0) at c.in_ok-take_start.ensures) c.if-not-branch.true

pub loop-one-preserved : goal.loop-one-preserved
loop-one-preserved c =
    let given = c.args.given.now in
    let i = c.loop-one.one-index in
    let item = c.one-item.result in
    let at : item.sight ≡ get_or (sights_in given) i item.sight = ap (λ g. g.sight) c.one-item.is ∙ sight_at given i item item.sight c.loop-one-test.true in
    starts_more c.args.first.now (sights_in given) i item.sight c.loop-one.blanks.items c.loop-one.values.items c.take_start.new.blanks.items c.take_start.new.values.items c.in_ok-take_start.field-0
    (subst (λ n. i < n) (sym (sights_length given)) c.loop-one-test.true) c.loop-one.invariant
    (subst (λ s. TakesStart c.loop-one.blanks.items c.loop-one.values.items s c.take_start.new.blanks.items c.take_start.new.values.items c.in_ok-take_start.field-0) at c.in_ok-take_start.ensures)

pub returns : goal.returns
returns c =
    starts_all c.args.first.now (sights_in c.args.given.now) c.loop-one.one-index c.loop-one.blanks.items _ (subst (λ n. n ≤ c.loop-one.one-index) (sym (sights_length c.args.given.now)) c.loop-one-test.false) refl c.loop-one.invariant
