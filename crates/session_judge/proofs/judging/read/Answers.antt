use Rattle.std.proofs.Common.{refl}
use Rattle.judge.specs.Views.{rules_of}
use Rattle.session_judge.proofs.Saying.{read_all, read_by}
use Rattle.session_judge.proofs.Walking.{walked_by}
use Rattle.session_judge.proofs.judging.read.Goals as goal

pub returns-in-Some : goal.returns-in-Some
returns-in-Some c =
    read_by (rules_of c.args.rules.now) c.args.lines.now c.loop-count.count c.index-lines-count.result c.loop-count.walk c.take.new.self c.in_ok-stop.field-0 c.in-Some.stop _ c.loop-count-test.true c.index-lines-count.is
    c.loop-count.invariant c.in_ok-stop.ensures c.in-Some.is refl refl refl

pub loop-count-preserved : goal.loop-count-preserved
loop-count-preserved c =
    walked_by (rules_of c.args.rules.now) c.args.lines.now c.loop-count.count c.index-lines-count.result c.loop-count.walk c.take.new.self c.in_ok-stop.field-0 c.loop-count-test.true c.index-lines-count.is
    c.loop-count.invariant c.in_ok-stop.ensures c.in_default.is

pub returns : goal.returns
returns c = read_all (rules_of c.args.rules.now) c.args.lines.now c.loop-count.count c.loop-count.walk _ c.loop-count-test.false c.loop-count.invariant refl refl refl
