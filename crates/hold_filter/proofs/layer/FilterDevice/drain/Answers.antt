use Rattle.hold_filter.proofs.Common.{subst, sym, DrainsAll, TableView, books_of, view_of, IsInHand}
use Rattle.hold_filter.proofs.Turning.{drains, hand_drained}
use Rattle.hold_filter.proofs.layer.FilterDevice.drain.Goals as goal

pub invariant_of-self : goal.invariant_of-self
invariant_of-self g c = record {
  buffers = c.self.invariant.buffers;
  in_hand = subst (λ (b : TableView). IsInHand g.D.Shown.stack_size (g.D.Shown.view c.drain.new.self) b)
      (sym c.remove.ensures)
      (hand_drained _ _ _ c.self.invariant.in_hand _ c.drain.ensures.drains c.shows_order.ensures.order);
}

pub returns : goal.returns
returns g c = rw (← c.self.view_is) (record {
  drains = subst (λ (b : TableView). DrainsAll
      (view_of (g.D.Shown.view c.self.inside.parts.device) (books_of c.self.inside.parts.table))
      (view_of (g.D.Shown.view c.drain.new.self) b)) (sym c.remove.ensures)
      (drains _ _ _ c.self.invariant.in_hand _ c.drain.ensures.drains);
})
