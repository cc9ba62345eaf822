use Rattle.label_text.proofs.Hexed.{AreHexed}
use Rattle.label_text.proofs.numerals.hex_digits.Given as goal

-- the digits of the bytes so far stand first
abbrev pub invariant-loop-byte : goal.invariant-loop-byte
invariant-loop-byte l = AreHexed l.bytes l.byte-index l.at l.digits
