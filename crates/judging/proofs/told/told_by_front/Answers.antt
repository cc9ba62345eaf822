use Rattle.std.proofs.Common.{rules, ◌≡◌, false}
use Rattle.judging.specs.Told.{has_no_bytes}
use Rattle.judging.proofs.Gaps.{no_front, other_front}
use Rattle.judging.proofs.told.told_by_front.Goals as goal

pub returns-in-Ok-2-clause-told : goal.returns-in-Ok-2-clause-told
returns-in-Ok-2-clause-told c = λ line is whole told none.
    let bytes : has_no_bytes c.in-Ok.line.label ≡ false = search rules in
    other_front line c.args.front.now c.in-Ok.line is told none c.in-Ok.ensures.only bytes

pub returns-in-Err-BadWord-clause-told : goal.returns-in-Err-BadWord-clause-told
returns-in-Err-BadWord-clause-told c = λ line is whole told none. no_front line c.args.front.now is told none (search rules)
