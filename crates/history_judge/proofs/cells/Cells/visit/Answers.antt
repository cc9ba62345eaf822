use Rattle.std.proofs.Common.{◌<◌, refl, sym, subst}
use Rattle.history_fitting.specs.Services.{rules_of}
use Rattle.history_judge.specs.inside.Cells.{IsCell}
use Rattle.history_judge.proofs.Celling.{on_one}
use Rattle.history_judge.proofs.Visiting.{one_is, put_back}
use Rattle.history_judge.proofs.cells.Cells.visit.Goals as goal

pub index_mut-requires : goal.index_mut-requires
index_mut-requires c =
    let has = c.requires.has in
    let one = c.in_ok-at.ensures has.0 has.1 in
    subst (λ n. c.in_ok-at.at < n) (sym c.at.new.self.cells.ok.0) (one.has.inside c.args.place.partition c.args.place.sector c.in_ok-at.at one.found)

pub returns : goal.returns
returns c = λ seen h told.
    let any = c.args.basis.now.start.any in
    let start = c.args.basis.now.start.bytes in
    let place = c.args.place in
    let cell = c.index_mut.result.now in
    let one = c.in_ok-at.ensures seen h in
    let there : IsCell any start (seen place.partition place.sector) cell =
    subst (IsCell any start (seen place.partition place.sector)) (sym c.index_mut.ensures.value) (one_is any start seen place c.at.new.self c.in_ok-at.at cell one) in
    on_one c.take.result (λ after. put_back any start (rules_of c.args.basis.now.service) seen place c.args.told.label.now c.at.new.self _ c.in_ok-at.at c.take.new.self one after refl refl refl)
    (c.take.ensures (seen place.partition place.sector) there told)
