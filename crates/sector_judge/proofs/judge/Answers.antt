use Rattle.sector_judge.proofs.Judging.{passed, refused, taken}
use Rattle.sector_judge.proofs.judge.Goals as goal

pub returns-then-not-branch : goal.returns-then-not-branch
returns-then-not-branch c = record {
  right = refused c.args.events.now c.loop-index.index _ c.loop-index.known c.take.new.self c.in_ok-take.field-0 c.loop-index-test.true c.loop-index.invariant c.in_ok-take.ensures c.if-not-branch.true;
}

pub loop-index-preserved : goal.loop-index-preserved
loop-index-preserved c =
    taken c.args.events.now c.loop-index.index _ c.loop-index.known c.take.new.self c.in_ok-take.field-0 c.loop-index-test.true c.loop-index.invariant c.in_ok-take.ensures c.if-not-branch.false

pub returns : goal.returns
returns c = record { right = passed c.args.events.now c.loop-index.index c.loop-index.known c.loop-index-test.false c.loop-index.invariant }
