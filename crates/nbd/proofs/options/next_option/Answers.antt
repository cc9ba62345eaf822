use Rattle.std.proofs.Common.{◌≡◌, ℕ, Err, length, rules, arith}
use Rattle.nbd.proofs.Haggling.{asked, cut_short}
use Rattle.nbd.proofs.options.next_option.Goals as goal

pub returns-then-count-gt-LONGEST_OPTION-clause-taken : goal.returns-then-count-gt-LONGEST_OPTION-clause-taken
returns-then-count-gt-LONGEST_OPTION-clause-taken g c =
    let s = c.in_ok-skip.ensures.taken in
    asked _ _ _ _ _ _ s.bytes c.in_ok-code.ensures.taken s.taken s.long (c.too_long.ensures s.bytes (omega (arith, s.long, c.if-count-gt-LONGEST_OPTION.true)))

pub returns-clause-taken : goal.returns-clause-taken
returns-clause-taken g c =
    let long : length {A = ℕ} c.take.new.buffer ≡ c.in_ok-code.count = search rules in
    asked _ _ _ _ _ _ c.take.new.buffer c.in_ok-code.ensures.taken c.in_ok-take.ensures.taken long c.parse_option.ensures

pub returns-in_err-take-clause-ended : goal.returns-in_err-take-clause-ended
returns-in_err-take-clause-ended g c =
    let given : c.from_residual-in_err-take.result ≡ Err c.in_err-take.field-0.0 = search rules in
    rw given (cut_short _ _ c.in_err-take.ensures.ended)
