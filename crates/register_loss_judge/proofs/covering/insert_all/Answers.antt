use Rattle.register_loss_judge.specs.inside.States.{forms}
use Rattle.register_loss_judge.proofs.Inserting.{inserts_first, inserts_next, inserts_all, none_left, zero_of}
use Rattle.register_loss_judge.proofs.covering.insert_all.Goals as goal

pub loop-state-init : goal.loop-state-init
loop-state-init c = inserts_first (forms c.args.states.now.items) (forms c.args.others.items)

pub loop-state-preserved : goal.loop-state-preserved
loop-state-preserved c =
    inserts_next (forms c.args.states.now.items) (forms c.args.others.items) (forms c.loop-state.states.items) (forms c.insert.new.states.items) c.loop-state.others.items c.pop.new.self.items c.in-Some.state c.in-Some.ensures.items
    c.loop-state.invariant c.in_ok-insert.ensures

pub returns : goal.returns
returns c =
    inserts_all (forms c.args.states.now.items) (forms c.args.others.items) (forms c.loop-state.states.items) c.loop-state.others.items
    (none_left c.loop-state.others.items c.loop-state.others.len c.loop-state.others.ok.0 (zero_of c.pop.result _ _ _ c.in_default.is c.pop.ensures.cases)) c.loop-state.invariant
