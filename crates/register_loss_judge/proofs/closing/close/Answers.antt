use Rattle.std.proofs.Common.{◌<◌, ◌≤◌, ◌∙◌, subst}
use Rattle.register_loss_judge.specs.inside.Covering.{InsertsAll}
use Rattle.register_loss_judge.specs.inside.States.{forms}
use Rattle.register_loss_judge.proofs.Growing.{closes, closes_first, closes_next}
use Rattle.register_loss_judge.proofs.closing.close.Goals as goal

pub loop-index-init : goal.loop-index-init
loop-index-init c =
    closes_first (forms c.args.states.items) c.insert_all.new.states.items
    (subst (λ xs. InsertsAll (forms xs) (forms c.args.states.items) (forms c.insert_all.new.states.items)) c.new-all.ensures.items c.in_ok-insert_all.ensures)

pub returns-then-index-len : goal.returns-then-index-len
returns-then-index-len c =
    closes (forms c.args.states.items) c.loop-index.index c.loop-index.all.items (subst (λ m. m ≤ c.loop-index.index) (c.len.ensures ∙ c.loop-index.all.ok.0) c.if-index-len.true) c.loop-index.invariant

pub loop-index-preserved : goal.loop-index-preserved
loop-index-preserved c =
    closes_next (forms c.args.states.items) c.loop-index.index c.loop-index.all.items c.insert_all-in-loop-index.new.states.items c.index.result.now (forms c.in_ok-turns.turns.items)
    (subst (λ m. c.loop-index.index < m) (c.len.ensures ∙ c.loop-index.all.ok.0) c.if-index-len.false) c.index.ensures c.in_ok-turns.ensures c.loop-index.invariant c.in_ok-insert_all-2.ensures
