use Rattle.book.proofs.Numbered.{counted_more, one_more}
use Rattle.book.proofs.taken.Taken.add.Goals as goal

pub invariant_of-self : goal.invariant_of-self
invariant_of-self g c = record {
  numbered =
      one_more c.self.inside.receipts c.receipt-receipt.result c.join.new.self c.self.inside.count c.receipt-receipt.ensures.receipt.0 c.self.invariant.numbered c.self.invariant.counted
      c.receipt-receipt.ensures.receipt.2 c.join.ensures;
  counted = counted_more c.self.inside.receipts c.receipt-receipt.result c.join.new.self c.self.inside.count c.receipt-receipt.ensures.receipt.0 c.self.invariant.counted c.receipt-receipt.ensures.receipt.2 c.join.ensures;
}
