use Rattle.hold_filter.proofs.Common.{◌≡◌, None, rules, books_of}
use Rattle.hold_filter.proofs.Ending.{has_ended}
use Rattle.hold_filter.proofs.Returning.{some_below, kept_back, hands_back}
use Rattle.hold_filter.proofs.Settling.{none_up}
use Rattle.hold_filter.proofs.layer.FilterDevice.take_done.Goals as goal

pub invariant_of-self : goal.invariant_of-self
invariant_of-self g c =
    record {
      buffers = c.self.invariant.buffers;
      in_hand =
          (has_ended _ _ _ c.in-Some.held c.self.invariant.in_hand c.in-Some.status c.hand_up.result.0
          c.hand_up.result.1
          c.hand_up.ensures (books_of c.take_ended.new.self) c.in-Some.ensures).0;
    }

pub returns-in-Some : goal.returns-in-Some
returns-in-Some g c =
    rw (← c.self.view_is)
    (record {
      hands_up =
          (has_ended _ _ _ c.in-Some.held c.self.invariant.in_hand c.in-Some.status c.hand_up.result.0
          c.hand_up.result.1
          c.hand_up.ensures (books_of c.take_ended.new.self) c.in-Some.ensures).1;
    })

pub returns-in_err-climb : goal.returns-in_err-climb
returns-in_err-climb g c =
    let given : c.from_residual.result ≡ None = search rules in
    rw given (rw (← c.self.view_is)
    (record {
      hands_up =
          none_up _ _ _ c.self.invariant.in_hand _ c.in_default.ensures _ c.in_err-climb.ensures.hands_up;
    }))

pub note_returned-requires : goal.note_returned-requires
note_returned-requires g c = some_below _ c.self.invariant.buffers _ _ _ _ _ _ c.in_ok-climb.ensures.hands_up _
    c.in_default.ensures c.self.invariant.in_hand.kept

pub release-requires-clause-kept : goal.release-requires-clause-kept
release-requires-clause-kept g c = kept_back _ c.self.invariant.buffers _ _ _ _ _ _ c.in_ok-climb.ensures.hands_up _
    c.in_default.ensures c.self.invariant.in_hand.kept c.shows_order.ensures.order _ c.note_returned.ensures

pub returns : goal.returns
returns g c = rw (← c.self.view_is) (record {
  hands_up = hands_back _ c.self.invariant.buffers _ _ _ _ _ _ c.in_ok-climb.ensures.hands_up _ c.in_default.ensures
      c.self.invariant.in_hand.kept c.shows_order.ensures.order _ c.note_returned.ensures _
      (books_of c.release.new.self.table) c.release.ensures.spares c.release.ensures.releases;
})
