use Rattle.script.specs.inside.Cuts.{AreWorth}
use Rattle.script.proofs.Asked.{finds_none}
use Rattle.script.proofs.Digits.{none_spelled, one_more}
use Rattle.script.proofs.orders.words.worth.Goals as goal

pub loop-digit-preserved : goal.loop-digit-preserved
loop-digit-preserved c =
    one_more c.args.digits.now c.loop-digit.digit-index c.loop-digit.number _ c.loop-digit-test.true
    c.loop-digit.invariant c.in_ok-number.ensures

pub returns-in_err-number : goal.returns-in_err-number
returns-in_err-number c =
    finds_none (AreWorth c.args.digits.now) c.from_residual.result c.from_residual.ensures
    (none_spelled c.args.digits.now c.loop-digit.digit-index c.loop-digit.number c.loop-digit-test.true
    c.loop-digit.invariant c.in_err-number.ensures)
