use Rattle.hold_filter.proofs.Common.{inl, inr, refl, books_of}
use Rattle.hold_filter.proofs.Cancelling.{may_end_all, if_true, if_false, at_held, at_any, leaves_held, holds_none}
use Rattle.hold_filter.proofs.layer.FilterDevice.cancel_at.Goals as goal

pub withdraw-requires : goal.withdraw-requires
withdraw-requires g c = record { may_end = may_end_all _ _ _ c.self.invariant.in_hand }

pub invariant_of-self : goal.invariant_of-self
invariant_of-self g c =
    record {
      buffers = c.self.invariant.buffers;
      in_hand =
          (at_held _ _ _ c.self.invariant.in_hand c.args.spot c.args.number (books_of c.withdraw.new.self)
          (if_true _ _ c.withdraw.result c.if-withdraw.true c.withdraw.ensures.withdraws)).0;
    }

pub returns-then-withdraw-clause-cancels : goal.returns-then-withdraw-clause-cancels
returns-then-withdraw-clause-cancels g c =
    rw (← c.self.view_is)
    ((at_held _ _ _ c.self.invariant.in_hand c.args.spot c.args.number (books_of c.withdraw.new.self)
    (if_true _ _ c.withdraw.result c.if-withdraw.true c.withdraw.ensures.withdraws)).1)

pub returns-then-withdraw-clause-held : goal.returns-then-withdraw-clause-held
returns-then-withdraw-clause-held g c =
    rw (← c.self.view_is)
    (inl (leaves_held _ _ c.self.inside.parts.table c.withdraw.new.self c.self.invariant.in_hand c.args.spot
    c.args.number
    (if_true _ _ c.withdraw.result c.if-withdraw.true c.withdraw.ensures.withdraws)))

pub invariant_of-self-2 : goal.invariant_of-self-2
invariant_of-self-2 g c =
    record {
      buffers = c.self.invariant.buffers;
      in_hand =
          (at_any _ _ _ c.self.invariant.in_hand c.args.spot c.args.number (books_of c.withdraw.new.self)
          (if_false _ _ c.withdraw.result c.if-withdraw.false c.withdraw.ensures.withdraws) _
          c.shows_order.ensures.order
          c.cancel_at.ensures.cancels).0;
    }

pub returns-clause-cancels : goal.returns-clause-cancels
returns-clause-cancels g c =
    rw (← c.self.view_is)
    ((at_any _ _ _ c.self.invariant.in_hand c.args.spot c.args.number (books_of c.withdraw.new.self)
    (if_false _ _ c.withdraw.result c.if-withdraw.false c.withdraw.ensures.withdraws) _
    c.shows_order.ensures.order
    c.cancel_at.ensures.cancels).1)

pub returns-clause-held : goal.returns-clause-held
returns-clause-held g c =
    rw (← c.self.view_is)
    (inr (holds_none _ _ (books_of c.self.inside.parts.table) (books_of c.withdraw.new.self) c.args.spot c.args.number
    refl refl
    (if_false _ _ c.withdraw.result c.if-withdraw.false c.withdraw.ensures.withdraws)))
