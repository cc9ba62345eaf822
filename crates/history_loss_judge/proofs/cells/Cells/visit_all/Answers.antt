use Rattle.std.proofs.Common.{◌≡◌, ◌+◌, arith, subst}
use Rattle.history_fitting.specs.Services.{rules_of}
use Rattle.history_loss_judge.specs.inside.Cells.{HasCells, kept_at, kept_in}
use Rattle.history_loss_judge.proofs.Visiting.{cells_alike, kept_none, kept_next, told_next}
use Rattle.history_loss_judge.proofs.cells.Cells.visit_all.Goals as goal

pub loop-place-init : goal.loop-place-init
loop-place-init c = λ shared kept h told.
    let rules = rules_of c.args.basis.now.service in
    cells_alike c.args.basis.now.start kept (kept_in rules shared kept c.args.span.first (c.args.span.first + 0) c.args.told.label.now) c.args.self.now
    (kept_none rules shared kept c.args.span.first c.args.told.label.now) h

pub visit-requires : goal.visit-requires
visit-requires c =
    let has = c.requires.has in
    (kept_in (rules_of c.args.basis.now.service) has.0 has.1 c.args.span.first (c.args.span.first + c.loop-place.place) c.args.told.label.now, c.loop-place.invariant has.0 has.1 has.2 has.3)

pub loop-place-preserved : goal.loop-place-preserved
loop-place-preserved c = λ shared kept h told.
    let rules = rules_of c.args.basis.now.service in
    let span = c.args.span in
    let label = c.args.told.label.now in
    let place = c.loop-place.place in
    cells_alike c.args.basis.now.start
    (kept_at rules shared (kept_in rules shared kept span.first (span.first + place) label) (span.first + place) label)
    (kept_in rules shared kept span.first (span.first + (place + 1)) label) c.visit.new.self
    (kept_next rules shared kept span.first place label)
    (c.in_ok-visit.ensures shared (kept_in rules shared kept span.first (span.first + place) label) (c.loop-place.invariant shared kept h told)
    (told_next rules shared kept span c.args.told.behind c.args.told.is_sync label place c.loop-place-test.true told))

pub returns : goal.returns
returns c = λ shared kept h told.
    let span = c.args.span in
    let all : c.loop-place.place ≡ span.count = omega (arith, c.loop-place-test.false, c.loop-place.auto.place-end) in
    subst (λ n. HasCells c.args.basis.now.start (kept_in (rules_of c.args.basis.now.service) shared kept span.first (span.first + n) c.args.told.label.now) c.loop-place.self) all (c.loop-place.invariant shared kept h told)
