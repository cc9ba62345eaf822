use Rattle.std.proofs.Common.{sym, subst}
use Rattle.register_judge.specs.inside.Covering.{IsCovered}
use Rattle.register_judge.specs.inside.States.{form_of, forms_of}
use Rattle.register_judge.proofs.Pruning.{PrunesSoFar, so_far_none, so_far_passed, so_far_pushed, so_far_all, none_left, zero_of}
use Rattle.register_judge.proofs.covering.left_of_all.Goals as goal

pub loop-state-init : goal.loop-state-init
loop-state-init c = subst (λ xs. PrunesSoFar (forms_of c.args.states.items) (forms_of c.args.states.items) (forms_of xs)) (sym c.new-left.ensures.items) (so_far_none (forms_of c.args.states.items))

pub loop-state-preserved-in-Continue-1 : goal.loop-state-preserved-in-Continue-1
loop-state-preserved-in-Continue-1 c =
    so_far_pushed (forms_of c.args.states.items) c.loop-state.states.items c.pop.new.self.items c.loop-state.left.items c.in-Some.state c.in-Some.ensures.items c.loop-state.invariant c.push.new.self.items
    c.in_ok-push.ensures.items

pub loop-state-preserved : goal.loop-state-preserved
loop-state-preserved c =
    so_far_passed (forms_of c.args.states.items) c.loop-state.states.items c.pop.new.self.items c.loop-state.left.items c.in-Some.state c.in-Some.ensures.items c.loop-state.invariant
    (subst (λ xs. IsCovered (forms_of xs) (form_of c.in-Some.state)) c.as_slice.ensures.value (c.is_covered.ensures c.if-not-is_covered.false))

pub returns : goal.returns
returns c =
    so_far_all (forms_of c.args.states.items) (forms_of c.loop-state.left.items) c.loop-state.states.items
    (none_left c.loop-state.states.items c.loop-state.states.len c.loop-state.states.ok.0 (zero_of c.pop.result _ _ _ c.in_default.is c.pop.ensures.cases)) c.loop-state.invariant
