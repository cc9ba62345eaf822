use Rattle.std.proofs.lemmas.List.Elements.{All-nil}
use Rattle.history_judge.specs.inside.Judging.{PassesBy}
use Rattle.history_judge.proofs.Judged.{right_more, right_of_all}
use Rattle.history_judge.proofs.judging.judge_all.Goals as goal

pub loop-place-init : goal.loop-place-init
loop-place-init c = λ start is. All-nil (PassesBy c.args.fitted.now.basis.start.any c.args.fitted.now.basis.service start c.args.fitted.now.labels.items)

pub loop-place-preserved : goal.loop-place-preserved
loop-place-preserved c = λ start is.
    right_more c.args.fitted.now.basis.start.any c.args.fitted.now.basis.service start c.args.fitted.now.gaps.items c.args.fitted.now.labels.items c.args.places.now c.loop-place.place-index _ c.loop-place.verdict c.in_ok-other.other
    c.first_of-verdict.result c.loop-place-test.true (c.loop-place.invariant start is) (c.in_ok-other.ensures start is) c.first_of-verdict.ensures

pub returns : goal.returns
returns c = λ start is.
    right_of_all c.args.fitted.now.basis.start.any c.args.fitted.now.basis.service start c.args.fitted.now.gaps.items c.args.fitted.now.labels.items c.args.places.now c.loop-place.place-index c.loop-place.verdict c.loop-place-test.false
    (c.loop-place.invariant start is)
