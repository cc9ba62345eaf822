use Rattle.std.proofs.Common.{subst}
use Rattle.std.specs.Prelude.{Some}
use Rattle.history_fitting.specs.Services.{rules_of}
use Rattle.history_judge.specs.inside.Histories.{IsSpan}
use Rattle.history_judge.specs.inside.Cells.{seen_of}
use Rattle.history_judge.proofs.Stopping.{cells_visited, cells_passed, told_label, fits_label, on_ok}
use Rattle.history_judge.proofs.recorded.Fitted.visit.Goals as goal

pub visit_all-requires-clause-fits : goal.visit_all-requires-clause-fits
visit_all-requires-clause-fits c =
    let f = c.args.self.now in
    fits_label f c.requires.fits.0 c.args.label.now c.requires.whole c.requires.fits.1 c.in-Some.span c.in-Some.kind (subst (IsSpan (rules_of f.basis.service) f.known c.args.label.now) c.in-Some.is c.span.ensures)

pub visit_all-requires-clause-has : goal.visit_all-requires-clause-has
visit_all-requires-clause-has c =
    let f = c.args.self.now in
    let label = c.args.label.now in
    let spans : IsSpan (rules_of f.basis.service) f.known label (Some (c.in-Some.span, c.in-Some.kind)) = subst (IsSpan (rules_of f.basis.service) f.known label) c.in-Some.is c.span.ensures in
    (seen_of (rules_of f.basis.service) f.labels.items, c.requires.whole.cells, told_label f c.requires.fits.0 label c.requires.whole c.requires.fits.1 c.in-Some.span c.in-Some.kind spans)

pub returns-in-Some-clause-cells : goal.returns-in-Some-clause-cells
returns-in-Some-clause-cells c =
    let f = c.args.self.now in
    let label = c.args.label.now in
    let span = c.in-Some.span in
    let kind = c.in-Some.kind in
    let spans : IsSpan (rules_of f.basis.service) f.known label (Some (span, kind)) = subst (IsSpan (rules_of f.basis.service) f.known label) c.in-Some.is c.span.ensures in
    on_ok c.visit_all.result (cells_visited f c.requires.fits.0 label c.requires.whole c.requires.fits.1 span kind c.visit_all.new.self spans)
    (c.visit_all.ensures (seen_of (rules_of f.basis.service) f.labels.items) c.requires.whole.cells (told_label f c.requires.fits.0 label c.requires.whole c.requires.fits.1 span kind spans))

pub returns-in-None-clause-cells : goal.returns-in-None-clause-cells
returns-in-None-clause-cells c =
    let f = c.args.self.now in
    cells_passed f c.requires.fits.0 c.args.label.now c.requires.whole c.requires.fits.1 (subst (IsSpan (rules_of f.basis.service) f.known c.args.label.now) c.in-None.is c.span.ensures)
