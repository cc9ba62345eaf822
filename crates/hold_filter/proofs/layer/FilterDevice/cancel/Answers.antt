use Rattle.hold_filter.proofs.Common.{subst, sym, All, TableView, books_of, MayEnd}
use Rattle.hold_filter.proofs.Cancelling.{may_end_all, cancelled_held, cancelled_below}
use Rattle.hold_filter.proofs.layer.FilterDevice.cancel.Goals as goal

pub withdraw-requires : goal.withdraw-requires
withdraw-requires g c =
    record {
      may_end = subst (λ (b : TableView). All (MayEnd b) b.held) (sym c.find_held.ensures.same)
          (may_end_all _ _ _ c.self.invariant.in_hand);
    }

pub invariant_of-self : goal.invariant_of-self
invariant_of-self g c =
    record {
      buffers = c.self.invariant.buffers;
      in_hand =
          (cancelled_held _ _ _ c.self.invariant.in_hand c.args.number c.in-Some.spot _
          (books_of c.withdraw.new.self)
          c.find_held.ensures.same c.in-Some.ensures.found c.withdraw.result c.withdraw.ensures.withdraws).0;
    }

pub returns-in-Some : goal.returns-in-Some
returns-in-Some g c =
    rw (← c.self.view_is)
    (record {
      cancels = (cancelled_held _ _ _ c.self.invariant.in_hand c.args.number c.in-Some.spot _
          (books_of c.withdraw.new.self) c.find_held.ensures.same c.in-Some.ensures.found c.withdraw.result
          c.withdraw.ensures.withdraws).1;
    })

pub invariant_of-self-2 : goal.invariant_of-self-2
invariant_of-self-2 g c =
    record {
      buffers = c.self.invariant.buffers;
      in_hand =
          (cancelled_below _ _ _ c.self.invariant.in_hand c.args.number _ (books_of c.find_held.new.self)
          c.find_held.ensures.same c.in_default.ensures.found c.shows_order.ensures.order
          c.cancel.ensures.cancels).0;
    }

pub returns : goal.returns
returns g c = rw (← c.self.view_is)
    (record {
      cancels = (cancelled_below _ _ _ c.self.invariant.in_hand c.args.number _ (books_of c.find_held.new.self)
          c.find_held.ensures.same c.in_default.ensures.found c.shows_order.ensures.order
          c.cancel.ensures.cancels).1;
    })
