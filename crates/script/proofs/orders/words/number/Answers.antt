use Rattle.script.proofs.Common.{arith, length, subst, sym, ◌∙◌, AreWorth, Finds}
use borrow.Author.Tests.{eqb-true}
use Rattle.script.proofs.Digits.{number_of}
use Rattle.script.proofs.Parted.{some_from_test}
use Rattle.script.proofs.orders.words.number.Goals as goal

pub returns-then-is_empty : goal.returns-then-is_empty
returns-then-is_empty c = λ n is.
    let none = eqb-true (length c.args.word.now) 0 (sym c.is_empty.ensures ∙ c.if-is_empty.true) in
    absurd (omega (arith, none, is.digits.0))

pub returns-then-word-gt-MOST_DIGITS : goal.returns-then-word-gt-MOST_DIGITS
returns-then-word-gt-MOST_DIGITS c = λ n is. absurd (omega (arith, c.if-word-gt-MOST_DIGITS.true, is.count))

pub returns : goal.returns
returns c =
    number_of c.args.word.now c.worth.result
    (some_from_test c.args.word.now (sym c.is_empty.ensures ∙ c.if-is_empty.false)) c.if-word-gt-MOST_DIGITS.false
    (subst (λ digits. Finds (AreWorth digits) c.worth.result) c.as_bytes.ensures.value c.worth.ensures)
