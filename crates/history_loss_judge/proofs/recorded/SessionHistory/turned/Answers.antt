use Rattle.std.proofs.Common.{ap}
use Rattle.history_loss_judge.specs.declared.telling.Basis.{Basis}
use Rattle.history_loss_judge.specs.inside.Lines.{line_of, turned_line}
use Rattle.history_loss_judge.proofs.Whole.{history_more, turned_is, view_more, view_taken}
use Rattle.history_loss_judge.proofs.recorded.SessionHistory.turned.Goals as goal

pub invariant_of-self : goal.invariant_of-self
invariant_of-self c =
    history_more c.self.inside.fitted c.self.inside.start.items c.self.inside.misfit c.self.inside.behind.items c.with-self-inside.result.items (turned_line c.args.how) c.if-is_some.ensures c.with-self-inside.ensures c.self.invariant

pub returns-then-is_some : goal.returns-then-is_some
returns-then-is_some c =
    view_more c.self.inside.fitted.basis.service c.self.inside.start.items c.self.inside.fitted.lines.items c.self.inside.behind.items c.with-self-inside.result.items (turned_line c.args.how) (line_of c.args.how) c.args.self (turned_is c.args.how)
    c.self.view_is c.with-self-inside.ensures

pub returns : goal.returns
returns c =
    view_taken c.self.inside.fitted c.self.inside.misfit c.turn.new.self.basis.service c.self.inside.start.items c.turn.new.self.lines.items c.self.inside.behind.items (turned_line c.args.how) (line_of c.args.how) c.args.self c.if-is_some.ensures
    c.self.invariant.stops (turned_is c.args.how) (ap (λ (b : Basis). b.service) c.in_ok-turn.ensures.basis) c.self.view_is c.in_ok-turn.ensures.lines
