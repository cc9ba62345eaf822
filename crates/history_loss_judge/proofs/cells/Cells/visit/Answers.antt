use Rattle.std.proofs.Common.{◌≡◌, ◌<◌, ◌∙◌, refl, sym, ap, subst}
use Rattle.history_fitting.specs.Services.{rules_of}
use Rattle.history_loss_judge.specs.inside.Telling.{IsToldOf, behind_label}
use Rattle.history_loss_judge.proofs.Visiting.{one_is, put_back}
use Rattle.history_loss_judge.proofs.Labels.{on_ok}
use Rattle.history_loss_judge.proofs.cells.Cells.visit.Goals as goal

pub index_mut-requires : goal.index_mut-requires
index_mut-requires c =
    let has = c.requires in
    let one = c.in_ok-at.ensures has.0 has.1 in
    subst (λ n. c.in_ok-at.at < n) (sym c.at.new.self.cells.ok.0) (one.has.inside c.args.sector c.in_ok-at.at one.found)

pub returns : goal.returns
returns c = λ shared kept h told.
    let rules = rules_of c.args.basis.now.service in
    let start = c.args.basis.now.start in
    let sector = c.args.sector in
    let label = c.args.told.label.now in
    let cell = c.index_mut.result.now in
    let one = c.in_ok-at.ensures kept h in
    let there : cell ≡ kept sector = c.index_mut.ensures.value ∙ one_is start kept sector c.at.new.self c.in_ok-at.at cell one in
    on_ok c.tell.result
    (λ after. put_back start rules shared kept sector label c.at.new.self _ c.in_ok-at.at c.tell.new.seen one (after ∙ ap (behind_label rules sector shared label) there) refl refl refl)
    (c.tell.ensures sector shared (subst (λ s. IsToldOf rules sector c.args.place shared s.own c.args.told.behind c.args.told.is_sync label) (sym there) told))
