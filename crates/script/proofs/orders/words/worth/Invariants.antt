use Rattle.script.proofs.Common.{take, AreWorth}
use Rattle.script.proofs.orders.words.worth.Given as goal

-- the digits so far are worth the number
abbrev pub invariant-loop-digit : goal.invariant-loop-digit
invariant-loop-digit l = AreWorth (take l.digit-index l.digits) l.number
