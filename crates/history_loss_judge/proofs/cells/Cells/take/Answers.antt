use Rattle.std.proofs.Common.{sym, subst}
use Rattle.std.specs.Prelude.{OnOk}
use Rattle.history_fitting.specs.Services.{rules_of}
use Rattle.history_loss_judge.specs.inside.Cells.{AreToldBy, HasCells, kept_by}
use Rattle.history_loss_judge.proofs.cells.Cells.take.Goals as goal

pub returns-in-Some : goal.returns-in-Some
returns-in-Some c = λ shared kept h told.
    let rules = rules_of c.args.basis.now.service in
    let label = c.args.told.label.now in
    subst (λ s. OnOk c.visit_all.result (HasCells c.args.basis.now.start (kept_by rules shared kept s label) c.visit_all.new.self)) (sym c.in-Some.is)
    (c.visit_all.ensures shared kept h (subst (λ s. AreToldBy rules shared kept s c.args.told.behind c.args.told.is_sync label) c.in-Some.is told))
