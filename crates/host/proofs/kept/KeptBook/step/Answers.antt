use Rattle.std.proofs.Common.{None, refl, sym, ◌∙◌, subst}
use mathlib.Core.Logic.{inl}
use Rattle.host.proofs.Common.{BookView, IsStepped}
use Rattle.host.proofs.Replying.{stepped_reply}
use Rattle.host.proofs.Standing.{none_shared, step_leaves}
use Rattle.host.proofs.kept.KeptBook.step.Goals as goal

pub invariant_of-self : goal.invariant_of-self
invariant_of-self g c =
    c.self.invariant ∙ sym (step_leaves c.laws_of_numbers.ensures.count g.N.TraceNaming.slots _ _ c.self.inside.book c.args.event c.step.result c.step.new.self c.requires.2 c.step.ensures.stepped)

pub returns-clause-stepped : goal.returns-clause-stepped
returns-clause-stepped g c =
    subst (λ (b : BookView). IsStepped g.N.TraceNaming.slots None (inl tt) b c.args.event c.step.result c.step.new.self) c.self.view_is
    (none_shared g.N.TraceNaming.slots c.none.result _ c.self.inside.book c.args.event c.args.event c.step.result c.step.new.self c.none.ensures refl c.step.ensures.stepped)

pub returns-clause-reply : goal.returns-clause-reply
returns-clause-reply g c = stepped_reply g.N.TraceNaming.slots c.none.result _ c.self.inside.book c.args.event c.step.result c.step.new.self c.none.ensures c.step.ensures.stepped
