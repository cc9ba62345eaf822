use Rattle.std.proofs.Common.{◌≡◌, ◌<◌, ◌≤◌, subst, get_or, length, refl}
use Rattle.std.specs.Prelude.{slice_index_or}
use Rattle.std.proofs.lemmas.List.{get_or_read_under}
use Rattle.machine.specs.State.{OpenRequest, Untouched}
use Rattle.judge.specs.Views.{rules_of}
use Rattle.judge.proofs.Counting.{one_counted, all_counted, one_more, no_more}
use Rattle.judge.proofs.open.Open.pieces_back.Goals as goal
use Rattle.judge.proofs.open.Open.pieces_back.Goals.{then-is_back, else-is_back}

pub loop-place-preserved : goal.loop-place-preserved
loop-place-preserved c =
    let mark : c.index.result.now ≡ get_or c.args.self.now.marks c.loop-place.place Untouched =
    get_or_read_under c.args.self.now.marks c.loop-place.place c.len-count.result c.index.result.now Untouched
    (subst (λ (o : OpenRequest). c.index.result.now ≡ slice_index_or o.marks c.loop-place.place c.index.result.now) c.self.view_is c.index.ensures)
    c.loop-place-test.true c.loop-place.invariant.1 in
    let low : c.loop-place.place < length c.args.self.now.marks =
    subst (λ n. c.loop-place.place < n) c.loop-place.invariant.1 c.loop-place-test.true in (
      one_counted (rules_of c.args.rules.now) c.args.self.now.marks c.loop-place.place c.loop-place.back c.if-is_back.back c.requires.some c.loop-place.invariant.0 low
          (elim c.if-is_back.branch [
            | then-is_back w ↦ one_more c.loop-place.back c.if-is_back.back c.index.result.now _ c.is_back.result mark c.is_back.ensures w.if-is_back.true w.back-is
            | else-is_back w ↦ no_more c.loop-place.back c.if-is_back.back c.index.result.now _ c.is_back.result mark c.is_back.ensures w.if-is_back.false w.back-is
          ]),
      c.loop-place.invariant.1,
      refl,
    )

pub returns-clause-counts : goal.returns-clause-counts
returns-clause-counts c =
    all_counted (rules_of c.args.rules.now) c.args.self.now.marks c.loop-place.place c.loop-place.back c.requires.some c.loop-place.invariant.0
    (subst (λ n. n ≤ c.loop-place.place) c.loop-place.invariant.1 c.loop-place-test.false)
