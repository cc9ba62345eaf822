-- From the back on those that are not lower are passed, and in front of a lower one all are.
use Rattle.std.proofs.Common.{◌≡◌, ◌<◌, ◌+◌, ◌-◌, ◌≤◌, sym, arith, length}
use Rattle.io_manager.specs.inside.Ordering.{lower_first}
use Rattle.io_manager.proofs.Inserting.{lower_first_within, not_lower, all_lower}
use Rattle.io_manager.proofs.answer_queue.place_of.Goals as goal

pub loop-place-init : goal.loop-place-init
loop-place-init c =
    let within : lower_first c.args.number c.args.answers.now.items ≤ length c.args.answers.now.items = lower_first_within c.args.number c.args.answers.now.items in
    let counted : c.args.answers.now.len ≡ length c.args.answers.now.items = c.args.answers.now.ok.0 in
    record { within = omega (arith, c.len-place.ensures, counted); not_lower = omega (arith, c.len-place.ensures, counted, within) }

pub loop-place-preserved : goal.loop-place-preserved
loop-place-preserved c =
    let some : 0 < c.loop-place.place = c.loop-place-test.true in
    let inside : c.loop-place.place - 1 < length c.args.answers.now.items = omega (arith, some, c.loop-place.invariant.within) in
    record {
      within = omega (arith, inside);
      not_lower = not_lower c.args.number c.args.answers.now.items (c.loop-place.place - 1) c.index.result.now inside (sym c.index.ensures) c.if-index-number.true;
    }

pub returns-else-index-number : goal.returns-else-index-number
returns-else-index-number c =
    let some : 0 < c.loop-place.place = c.loop-place-test.true in
    let inside : c.loop-place.place - 1 < length c.args.answers.now.items = omega (arith, some, c.loop-place.invariant.within) in
    let all : c.loop-place.place - 1 + 1 ≤ lower_first c.args.number c.args.answers.now.items =
    all_lower c.args.number c.args.answers.now.items (c.loop-place.place - 1) c.index.result.now c.requires inside (sym c.index.ensures) c.if-index-number.false in
    omega (arith, some, all, c.loop-place.invariant.not_lower)
