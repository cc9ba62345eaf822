use Rattle.std.proofs.Common.{◌≡◌, ◌+◌, ◌-◌, ◌++◌, List, ℕ, sym, ◌∙◌, ap, length, drop}
use Rattle.judge.specs.Views.{joined_marks}
use Rattle.judge.specs.Ruling.{difference}
use Rattle.judge.proofs.Differing.{found_all, goes_past, place_in_front}
use Rattle.judge.proofs.broken_answers.joined_difference.Goals as goal

pub returns-then-is_some : goal.returns-then-is_some
returns-then-is_some c =
    let front : joined_marks (drop c.loop-place.place-index c.args.marks.now) ≡ c.bytes.result.now ++ joined_marks (drop (c.loop-place.place-index + 1) c.args.marks.now) =
    place_in_front c.args.marks.now c.loop-place.place-index c.place-item.result c.bytes.result.now c.loop-place-test.true c.place-item.is c.bytes.ensures in
    found_all c.args.told.now c.loop-place.rest.now c.bytes.result.now (joined_marks (drop (c.loop-place.place-index + 1) c.args.marks.now)) (difference 0 (joined_marks c.args.marks.now) c.args.told.now) c.next_difference-found.result.0
    c.loop-place.invariant.within (c.loop-place.invariant.same ∙ ap (λ (due : List ℕ). difference (length c.args.told.now - length c.loop-place.rest.now) due c.loop-place.rest.now) front)
    c.next_difference-found.ensures.found (sym c.is_some.ensures ∙ c.if-is_some.true)

pub loop-place-preserved : goal.loop-place-preserved
loop-place-preserved c =
    let front : joined_marks (drop c.loop-place.place-index c.args.marks.now) ≡ c.bytes.result.now ++ joined_marks (drop (c.loop-place.place-index + 1) c.args.marks.now) =
    place_in_front c.args.marks.now c.loop-place.place-index c.place-item.result c.bytes.result.now c.loop-place-test.true c.place-item.is c.bytes.ensures in
    let past = goes_past c.args.told.now c.loop-place.rest.now c.bytes.result.now (joined_marks (drop (c.loop-place.place-index + 1) c.args.marks.now)) (difference 0 (joined_marks c.args.marks.now) c.args.told.now) c.next_difference-found.result.0
    c.loop-place.invariant.within (c.loop-place.invariant.same ∙ ap (λ (due : List ℕ). difference (length c.args.told.now - length c.loop-place.rest.now) due c.loop-place.rest.now) front)
    c.next_difference-found.ensures.found c.next_difference-found.result.1.now (sym c.is_some.ensures ∙ c.if-is_some.false) c.next_difference-found.ensures.behind in
    record { within = past.within; same = past.same }
