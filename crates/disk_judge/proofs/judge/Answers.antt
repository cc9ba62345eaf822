use Rattle.disk_judge.proofs.Taking.{known_by, passes, refuses_by}
use Rattle.disk_judge.proofs.judge.Goals as goal

pub returns-in-Some : goal.returns-in-Some
returns-in-Some c = record {
  right = refuses_by c.args.count c.args.happenings.now c.loop-index.index _ c.loop-index.disk c.take.new.self c.in_ok-sector.field-0 c.in-Some.sector c.loop-index-test.true c.loop-index.invariant c.in_ok-sector.ensures
      c.in-Some.is;
}

pub loop-index-preserved : goal.loop-index-preserved
loop-index-preserved c =
    known_by c.args.count c.args.happenings.now c.loop-index.index _ c.loop-index.disk c.take.new.self c.in_ok-sector.field-0 c.loop-index-test.true c.loop-index.invariant c.in_ok-sector.ensures c.in_default.is

pub returns : goal.returns
returns c = record { right = passes c.args.count c.args.happenings.now c.loop-index.index c.loop-index.disk c.loop-index-test.false c.loop-index.invariant }
