use Rattle.std.proofs.Common.{arith}
use Rattle.label_text.proofs.Decimals.{one, two, three, four, where_written}
use Rattle.label_text.proofs.numerals.write_short.Goals as goal

pub returns-then-number-ge1000 : goal.returns-then-number-ge1000
returns-then-number-ge1000 c =
    rw (four c.args.number (omega (arith, c.if-number-ge1000.true)) (omega (arith, c.requires)), ← c.digit.ensures, ← c.digit-then-number-ge1000.ensures, ← c.digit-then-number-ge1000-2.ensures, ← c.digit-then-number-ge1000-3.ensures)
    (where_written c.extend_from_slice.result c.extend_from_slice.new.self.items c.args.text.now.items _ c.extend_from_slice.ensures.items)

pub returns-then-number-ge100 : goal.returns-then-number-ge100
returns-then-number-ge100 c =
    rw (three c.args.number (omega (arith, c.if-number-ge100.true)) (omega (arith, c.if-number-ge1000.false)), ← c.digit-then-number-ge100.ensures, ← c.digit-then-number-ge100-2.ensures, ← c.digit-then-number-ge100-3.ensures)
    (where_written c.extend_from_slice-then-number-ge100.result c.extend_from_slice-then-number-ge100.new.self.items c.args.text.now.items _ c.extend_from_slice-then-number-ge100.ensures.items)

pub returns-then-number-ge10 : goal.returns-then-number-ge10
returns-then-number-ge10 c =
    rw (two c.args.number (omega (arith, c.if-number-ge10.true)) (omega (arith, c.if-number-ge100.false)), ← c.digit-then-number-ge10.ensures, ← c.digit-then-number-ge10-2.ensures)
    (where_written c.extend_from_slice-then-number-ge10.result c.extend_from_slice-then-number-ge10.new.self.items c.args.text.now.items _ c.extend_from_slice-then-number-ge10.ensures.items)

pub returns : goal.returns
returns c =
    rw (one c.args.number (omega (arith, c.if-number-ge10.false)), ← c.digit-2.ensures)
    (where_written c.extend_from_slice-2.result c.extend_from_slice-2.new.self.items c.args.text.now.items _ c.extend_from_slice-2.ensures.items)
