use Rattle.std.proofs.Common.{◌≡◌, None, refl, sym, ap, ◌∙◌, subst}
use mathlib.Core.Logic.{inl}
use Rattle.pnp.specs.declared.State.{State as PnpState}
use Rattle.host.proofs.Common.{BookView, IsStepped}
use Rattle.host.specs.Standing.{call_of, left_behind, steps_of}
use Rattle.host.proofs.Replying.{stepped_reply}
use Rattle.host.proofs.Standing.{goes_on, moved_on, moves_device, none_shared}
use Rattle.host.proofs.kept.KeptBook.keep.Goals as goal

pub invariant_of-self : goal.invariant_of-self
invariant_of-self g c =
    let stepped = none_shared g.N.TraceNaming.slots c.none.result _ c.self.inside.book c.event.result (call_of c.args.request) c.step-reply.result c.step-reply.new.self c.none.ensures c.event.ensures c.step-reply.ensures.stepped in
    let m = moves_device c.laws_of_numbers.ensures.count g.N.TraceNaming.slots c.args.request c.args.standing.now c.self.inside.book c.step-reply.result c.step-reply.new.self (sym c.self.invariant ∙ c.agrees.ensures.agrees) stepped in
    let after : c.state_behind-after.result ≡ left_behind c.step-reply.result c.args.request c.args.standing.now = c.state_behind-after.ensures ∙ ap (λ (s : PnpState). left_behind c.step-reply.result c.args.request s) c.state-before.ensures in
    c.move_to.ensures.total ∙ ap (λ (s : PnpState). steps_of s) after ∙ moved_on c.args.request c.args.standing.now c.step-reply.result c.step-reply.new.self.traced.stack.state m

pub returns-clause-stepped : goal.returns-clause-stepped
returns-clause-stepped g c =
    subst (λ (b : BookView). IsStepped g.N.TraceNaming.slots None (inl tt) b (call_of c.args.request) c.step-reply.result c.step-reply.new.self) c.self.view_is
    (none_shared g.N.TraceNaming.slots c.none.result _ c.self.inside.book c.event.result (call_of c.args.request) c.step-reply.result c.step-reply.new.self c.none.ensures c.event.ensures c.step-reply.ensures.stepped)

pub returns-clause-reply : goal.returns-clause-reply
returns-clause-reply g c =
    let stepped = none_shared g.N.TraceNaming.slots c.none.result _ c.self.inside.book c.event.result (call_of c.args.request) c.step-reply.result c.step-reply.new.self c.none.ensures c.event.ensures c.step-reply.ensures.stepped in
    stepped_reply g.N.TraceNaming.slots None (inl tt) c.self.inside.book (call_of c.args.request) c.step-reply.result c.step-reply.new.self refl stepped

pub returns-clause-goes : goal.returns-clause-goes
returns-clause-goes g c =
    let stepped = none_shared g.N.TraceNaming.slots c.none.result _ c.self.inside.book c.event.result (call_of c.args.request) c.step-reply.result c.step-reply.new.self c.none.ensures c.event.ensures c.step-reply.ensures.stepped in
    let m = moves_device c.laws_of_numbers.ensures.count g.N.TraceNaming.slots c.args.request c.args.standing.now c.self.inside.book c.step-reply.result c.step-reply.new.self (sym c.self.invariant ∙ c.agrees.ensures.agrees) stepped in
    let after : c.state_behind-after.result ≡ left_behind c.step-reply.result c.args.request c.args.standing.now = c.state_behind-after.ensures ∙ ap (λ (s : PnpState). left_behind c.step-reply.result c.args.request s) c.state-before.ensures in
    goes_on c.args.request c.args.standing.now c.move_to.new.self c.step-reply.result c.step-reply.new.self.traced.stack.state m (c.move_to.ensures.state ∙ after)
