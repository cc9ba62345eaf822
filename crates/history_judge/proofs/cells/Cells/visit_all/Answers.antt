use Rattle.std.proofs.Common.{◌≡◌, ◌+◌, arith, subst}
use Rattle.history_fitting.specs.Services.{rules_of}
use Rattle.history_judge.specs.inside.Cells.{HasCells, seen_at, seen_in}
use Rattle.history_judge.proofs.Visiting.{cells_alike, seen_none, seen_next, told_next_one}
use Rattle.history_judge.proofs.cells.Cells.visit_all.Goals as goal

pub loop-sector-init : goal.loop-sector-init
loop-sector-init c = (
  omega arith,
  λ seen h told.
      cells_alike c.args.basis.now.start.any c.args.basis.now.start.bytes seen (seen_in (rules_of c.args.basis.now.service) seen c.args.span.partition c.args.span.extent.first c.args.span.extent.first c.args.told.label.now) c.args.self.now
      (seen_none (rules_of c.args.basis.now.service) seen c.args.span.partition c.args.span.extent.first c.args.told.label.now) h,
)

pub visit-requires-clause-has : goal.visit-requires-clause-has
visit-requires-clause-has c =
    let has = c.requires.has in
    (seen_in (rules_of c.args.basis.now.service) has.0 c.args.span.partition c.args.span.extent.first c.loop-sector.sector c.args.told.label.now, c.loop-sector.invariant.1 has.0 has.1 has.2)

pub loop-sector-preserved : goal.loop-sector-preserved
loop-sector-preserved c = (
  let low = c.loop-sector.invariant.0 in omega (arith, low),
  λ seen h told.
      let rules = rules_of c.args.basis.now.service in
      let span = c.args.span in
      let label = c.args.told.label.now in
      let sector = c.loop-sector.sector in
      cells_alike c.args.basis.now.start.any c.args.basis.now.start.bytes
      (seen_at rules (seen_in rules seen span.partition span.extent.first sector label) (record { partition = span.partition; sector = sector }) label)
      (seen_in rules seen span.partition span.extent.first (sector + 1) label) c.visit.new.self
      (seen_next rules seen span.partition span.extent.first sector label c.loop-sector.invariant.0)
      (c.in_ok-visit.ensures (seen_in rules seen span.partition span.extent.first sector label) (c.loop-sector.invariant.1 seen h told)
      (told_next_one rules seen span c.args.told.kind label sector c.loop-sector.invariant.0 c.loop-sector-test.true told)),
)

pub returns : goal.returns
returns c = λ seen h told.
    let span = c.args.span in
    let label = c.args.told.label.now in
    let all : c.loop-sector.sector ≡ span.extent.first + span.extent.count = omega (arith, c.loop-sector-test.false, c.loop-sector.auto.sector, c.loop-sector.auto.sector-end) in
    subst (λ n. HasCells c.args.basis.now.start.any c.args.basis.now.start.bytes (seen_in (rules_of c.args.basis.now.service) seen span.partition span.extent.first n label) c.loop-sector.self) all (c.loop-sector.invariant.1 seen h told)
