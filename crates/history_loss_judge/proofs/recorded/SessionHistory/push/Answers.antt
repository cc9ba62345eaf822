use Rattle.std.proofs.Common.{ap, refl}
use Rattle.loss.specs.Sessions.{Told as ToldLine}
use Rattle.history_loss_judge.specs.declared.lines.Line.TheVariants.{Told}
use Rattle.history_loss_judge.specs.declared.telling.Basis.{Basis}
use Rattle.history_loss_judge.proofs.Whole.{history_more, view_more, view_taken}
use Rattle.history_loss_judge.proofs.recorded.SessionHistory.push.Goals as goal

pub invariant_of-self : goal.invariant_of-self
invariant_of-self c =
    history_more c.self.inside.fitted c.self.inside.start.items c.self.inside.misfit c.self.inside.behind.items c.with-self-inside.result.items (Told c.args.label.now) c.if-is_some.ensures c.with-self-inside.ensures c.self.invariant

pub returns-then-is_some : goal.returns-then-is_some
returns-then-is_some c =
    view_more c.self.inside.fitted.basis.service c.self.inside.start.items c.self.inside.fitted.lines.items c.self.inside.behind.items c.with-self-inside.result.items (Told c.args.label.now) (ToldLine c.args.label.now) c.args.self refl c.self.view_is
    c.with-self-inside.ensures

pub returns-then-may_come : goal.returns-then-may_come
returns-then-may_come c =
    view_taken c.self.inside.fitted c.self.inside.misfit c.take.new.self.basis.service c.self.inside.start.items c.take.new.self.lines.items c.self.inside.behind.items (Told c.args.label.now) (ToldLine c.args.label.now) c.args.self c.if-is_some.ensures
    c.self.invariant.stops refl (ap (λ (b : Basis). b.service) c.in_ok-take.ensures.basis) c.self.view_is c.in_ok-take.ensures.lines

pub returns : goal.returns
returns c =
    view_more c.self.inside.fitted.basis.service c.self.inside.start.items c.self.inside.fitted.lines.items c.self.inside.behind.items c.with-self-inside-2.result.items (Told c.args.label.now) (ToldLine c.args.label.now) c.args.self refl c.self.view_is
    c.with-self-inside-2.ensures
