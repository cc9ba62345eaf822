use Rattle.std.proofs.Common.{rules}
use Rattle.label_text.proofs.Hexed.{all_hexed, one_hexed}
use Rattle.label_text.proofs.numerals.hex_digits.Goals as goal

pub loop-byte-preserved : goal.loop-byte-preserved
loop-byte-preserved c =
    one_hexed c.args.bytes.now c.loop-byte.byte-index c.loop-byte.at c.loop-byte.digits _ _ 0 c.requires c.loop-byte-test.true c.loop-byte.invariant c.digit_of.ensures
    c.digit_of-in-loop-byte.ensures

pub returns : goal.returns
returns c = all_hexed c.args.bytes.now c.loop-byte.byte-index c.loop-byte.at c.loop-byte.digits c.loop-byte.invariant (search rules)
