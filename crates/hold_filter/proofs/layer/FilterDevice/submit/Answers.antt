use Rattle.hold_filter.proofs.Common.{arith, ap, ◌∙◌, Irp, FilterView, books_of, counted}
use Rattle.hold_filter.proofs.Calls.{may_take_in}
use Rattle.hold_filter.proofs.Submitting.{may_hold, has_held, may_send_now, window_now, has_gone}
use Rattle.hold_filter.proofs.layer.FilterDevice.submit.Goals as goal

pub count-requires : goal.count-requires
count-requires g c = let m =
    (may_take_in _ _ _ c.self.invariant.in_hand _ c.args.irp.value c.args.room.spot
    (ap (λ (f : FilterView). f.shown) c.self.view_is) c.requires.ready c.requires.not_removing c.requires.number
    c.requires.few c.requires.own_location c.requires.locations c.requires.not_cancelled c.requires.carries) in
    let n = c.self.invariant.in_hand.kept.below.most in let f = m.few in omega arith

pub send-requires-clause-may_send : goal.send-requires-clause-may_send
send-requires-clause-may_send g c = may_send_now _ _ _ c.args.irp c.args.room c.self.invariant.in_hand
    (may_take_in _ _ _ c.self.invariant.in_hand _ c.args.irp.value c.args.room.spot
    (ap (λ (f : FilterView). f.shown) c.self.view_is) c.requires.ready c.requires.not_removing c.requires.number
    c.requires.few c.requires.own_location c.requires.locations c.requires.not_cancelled c.requires.carries) _
    (c.count.ensures ∙ ap (λ (i : Irp). counted i.number (books_of c.self.inside.parts.table)) c.deref.ensures)
    c.has_room.result c.has_room.ensures c.if-has_room.true

pub send-requires-clause-window : goal.send-requires-clause-window
send-requires-clause-window g c = window_now _ _ _ c.args.irp c.args.room c.self.invariant.in_hand
    (may_take_in _ _ _ c.self.invariant.in_hand _ c.args.irp.value c.args.room.spot
    (ap (λ (f : FilterView). f.shown) c.self.view_is) c.requires.ready c.requires.not_removing c.requires.number
    c.requires.few c.requires.own_location c.requires.locations c.requires.not_cancelled c.requires.carries) _
    (c.count.ensures ∙ ap (λ (i : Irp). counted i.number (books_of c.self.inside.parts.table)) c.deref.ensures)
    c.has_room.result c.has_room.ensures c.if-has_room.true

pub invariant_of-self : goal.invariant_of-self
invariant_of-self g c =
    record {
      buffers = c.self.invariant.buffers;
      in_hand =
          (has_gone _ _ _ c.args.irp c.args.room c.self.invariant.in_hand
          (may_take_in _ _ _ c.self.invariant.in_hand _ c.args.irp.value c.args.room.spot
          (ap (λ (f : FilterView). f.shown) c.self.view_is) c.requires.ready c.requires.not_removing
          c.requires.number
          c.requires.few c.requires.own_location c.requires.locations c.requires.not_cancelled c.requires.carries) _
          (c.count.ensures ∙ ap (λ (i : Irp). counted i.number (books_of c.self.inside.parts.table))
          c.deref.ensures)
          c.has_room.result c.has_room.ensures c.if-has_room.true _ _ c.send.ensures.sends c.send.ensures.order
          c.send.ensures.table).hand;
    }

pub returns-then-has_room : goal.returns-then-has_room
returns-then-has_room g c =
    rw (← c.self.view_is)
    (record {
      submits = (has_gone _ _ _ c.args.irp c.args.room c.self.invariant.in_hand
          (may_take_in _ _ _ c.self.invariant.in_hand _ c.args.irp.value c.args.room.spot
          (ap (λ (f : FilterView). f.shown) c.self.view_is) c.requires.ready c.requires.not_removing
          c.requires.number
          c.requires.few c.requires.own_location c.requires.locations c.requires.not_cancelled c.requires.carries) _
          (c.count.ensures ∙ ap (λ (i : Irp). counted i.number (books_of c.self.inside.parts.table))
          c.deref.ensures)
          c.has_room.result c.has_room.ensures c.if-has_room.true _ _ c.send.ensures.sends c.send.ensures.order
          c.send.ensures.table).submits;
    })

pub take_in-requires-clause-covered : goal.take_in-requires-clause-covered
take_in-requires-clause-covered g c =
    (may_hold _ _ _ c.args.irp c.args.room c.self.invariant.in_hand
    (may_take_in _ _ _ c.self.invariant.in_hand _ c.args.irp.value c.args.room.spot
    (ap (λ (f : FilterView). f.shown) c.self.view_is) c.requires.ready c.requires.not_removing c.requires.number
    c.requires.few c.requires.own_location c.requires.locations c.requires.not_cancelled c.requires.carries) _
    (c.count.ensures ∙ ap (λ (i : Irp). counted i.number (books_of c.self.inside.parts.table)) c.deref.ensures)
    c.has_room.result c.has_room.ensures).0

pub take_in-requires-clause-vacant : goal.take_in-requires-clause-vacant
take_in-requires-clause-vacant g c =
    (may_hold _ _ _ c.args.irp c.args.room c.self.invariant.in_hand
    (may_take_in _ _ _ c.self.invariant.in_hand _ c.args.irp.value c.args.room.spot
    (ap (λ (f : FilterView). f.shown) c.self.view_is) c.requires.ready c.requires.not_removing c.requires.number
    c.requires.few c.requires.own_location c.requires.locations c.requires.not_cancelled c.requires.carries) _
    (c.count.ensures ∙ ap (λ (i : Irp). counted i.number (books_of c.self.inside.parts.table)) c.deref.ensures)
    c.has_room.result c.has_room.ensures).1

pub invariant_of-self-else-has_room : goal.invariant_of-self-else-has_room
invariant_of-self-else-has_room g c =
    record {
      buffers = c.self.invariant.buffers;
      in_hand =
          (has_held _ _ _ c.args.irp c.args.room c.self.invariant.in_hand
          (may_take_in _ _ _ c.self.invariant.in_hand _ c.args.irp.value c.args.room.spot
          (ap (λ (f : FilterView). f.shown) c.self.view_is) c.requires.ready c.requires.not_removing
          c.requires.number
          c.requires.few c.requires.own_location c.requires.locations c.requires.not_cancelled c.requires.carries) _
          (c.count.ensures ∙ ap (λ (i : Irp). counted i.number (books_of c.self.inside.parts.table))
          c.deref.ensures)
          c.has_room.result c.has_room.ensures c.if-has_room.false _ c.take_in.ensures).hand;
    }

pub returns-else-has_room : goal.returns-else-has_room
returns-else-has_room g c =
    rw (← c.self.view_is)
    (record {
      submits = (has_held _ _ _ c.args.irp c.args.room c.self.invariant.in_hand
          (may_take_in _ _ _ c.self.invariant.in_hand _ c.args.irp.value c.args.room.spot
          (ap (λ (f : FilterView). f.shown) c.self.view_is) c.requires.ready c.requires.not_removing
          c.requires.number
          c.requires.few c.requires.own_location c.requires.locations c.requires.not_cancelled c.requires.carries) _
          (c.count.ensures ∙ ap (λ (i : Irp). counted i.number (books_of c.self.inside.parts.table))
          c.deref.ensures)
          c.has_room.result c.has_room.ensures c.if-has_room.false _ c.take_in.ensures).submits;
    })
