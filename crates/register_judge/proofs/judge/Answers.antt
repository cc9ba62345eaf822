use Rattle.std.proofs.Common.{subst}
use Rattle.register_judge.specs.inside.Registers.{Sees}
use Rattle.register_judge.proofs.Judging.{covers_next, refuses, exact_first, exact_next, passes}
use Rattle.register_judge.proofs.judge.Goals as goal

pub loop-index-init : goal.loop-index-init
loop-index-init c = exact_first c.args.start.now c.in_ok-register.register c.in_ok-register.ensures

pub returns-then-has_none : goal.returns-then-has_none
returns-then-has_none c = record {
  right = refuses c.args.start.now c.see.new.self c.args.sights.now c.loop-index.index c.loop-index-test.true
      (covers_next c.args.start.now c.loop-index.register c.see.new.self c.args.sights.now c.loop-index.index c.index-sights-index.result c.loop-index-test.true c.loop-index.invariant (subst (λ sight. Sees c.loop-index.register sight c.see.new.self) c.index-sights-index.is (c.in_ok-see.ensures c.if-not-branch.false)))
      (c.has_none.ensures.0 c.if-has_none.true);
}

pub loop-index-preserved : goal.loop-index-preserved
loop-index-preserved c =
    exact_next c.args.start.now c.loop-index.register c.see.new.self c.args.sights.now c.loop-index.index c.index-sights-index.result c.loop-index-test.true c.loop-index.invariant (subst (λ sight. Sees c.loop-index.register sight c.see.new.self) c.index-sights-index.is (c.in_ok-see.ensures c.if-not-branch.false))
    (λ e. let is_none = c.has_none.ensures.1 e in cc (is_none, c.if-has_none.false))

pub returns : goal.returns
returns c = record { right = passes c.args.start.now c.loop-index.register c.args.sights.now c.loop-index.index c.loop-index-test.false c.loop-index.invariant }
