-- The packet of a request that has ended goes up, and its room is left.
use Rattle.class_disk.proofs.Common.{refl, ap, ◌∙◌, books_of, opened_of, payload_of, subst, sym, Table, HandsUp, IsInHand, view_of, tickets, false}
use Rattle.class_disk.proofs.Ended.{ended_open, small_up, room_up, some_up, hands_up}
use Rattle.class_disk.proofs.Standing.{apart_in}
use Rattle.class_disk.proofs.NoneEnded.{none_up}
use Rattle.class_disk.proofs.LeavingRoom.{in_hand_left, parts_first, parts_here}
use Rattle.class_disk.proofs.layer.DiskDevice.take_done.Goals as goal

pub take_ended-requires : goal.take_ended-requires
take_ended-requires g c = ended_open _ (books_of c.self.inside.extension.table) c.self.invariant.in_hand.kept c.self.inside.extension.table.slots.slots refl

pub returns-in_err-slot : goal.returns-in_err-slot
returns-in_err-slot g c =
    rw c.from_residual.ensures (rw (← c.self.view_is) (record {
      hands_up = none_up _ (books_of c.self.inside.extension.table) c.self.invariant.in_hand c.self.invariant.in_hand.rooms_out.orderly
          c.in_err-slot.ensures.takes.none (books_of c.take_ended.new.self) c.in_err-slot.ensures.takes;
    }))

pub complete-climb-requires-clause-small : goal.complete-climb-requires-clause-small
complete-climb-requires-clause-small g c =
    small_up _ (books_of c.self.inside.extension.table) c.self.invariant.in_hand c.self.invariant.in_hand.rooms_out.orderly
    c.self.inside.extension.table.slots.slots refl c.in_ok-slot.slot (opened_of c.in_ok-slot.transfer) (books_of c.take_ended.new.self) c.in_ok-slot.ensures.takes

pub complete-climb-requires-clause-room : goal.complete-climb-requires-clause-room
complete-climb-requires-clause-room g c = λ bytes own is kind succeeds.
    room_up _ (books_of c.self.inside.extension.table) c.self.invariant.in_hand c.self.invariant.in_hand.rooms_out.orderly
    c.self.inside.extension.table.slots.slots refl c.in_ok-slot.slot (opened_of c.in_ok-slot.transfer) (books_of c.take_ended.new.self) c.in_ok-slot.ensures.takes
    bytes (ap (λ t. payload_of t c.in_ok-slot.transfer.noted.bytes c.in_ok-slot.transfer.irp.value.payload) own ∙ is) kind succeeds

pub complete-climb-requires-clause-some : goal.complete-climb-requires-clause-some
complete-climb-requires-clause-some g c =
    some_up _ (books_of c.self.inside.extension.table) c.self.invariant.in_hand c.self.invariant.in_hand.rooms_out.orderly
    c.self.inside.extension.table.slots.slots refl c.in_ok-slot.slot (opened_of c.in_ok-slot.transfer) (books_of c.take_ended.new.self) c.in_ok-slot.ensures.takes

pub free_parts-requires-clause-out : goal.free_parts-requires-clause-out
free_parts-requires-clause-out g c = (
  tickets (books_of c.fill.new.self),
  parts_first _ (books_of c.self.inside.extension.table) c.self.invariant.in_hand c.self.invariant.in_hand.rooms_out.orderly
      c.self.inside.extension.table.slots.slots refl c.in_ok-slot.slot (opened_of c.in_ok-slot.transfer) (books_of c.take_ended.new.self) c.in_ok-slot.ensures.takes
      c.complete-climb.result.1.items c.complete-climb.ensures.left (record { request = c.in_ok-slot.transfer.request; parts = c.new.result }) c.new.ensures.items (books_of c.fill.new.self) c.fill.ensures,
)

pub free_parts-requires-clause-here : goal.free_parts-requires-clause-here
free_parts-requires-clause-here g c =
    parts_here _ (books_of c.self.inside.extension.table) c.self.invariant.in_hand c.self.invariant.in_hand.rooms_out.orderly
    c.self.inside.extension.table.slots.slots refl c.in_ok-slot.slot (opened_of c.in_ok-slot.transfer) (books_of c.take_ended.new.self) c.in_ok-slot.ensures.takes
    c.complete-climb.result.1.items c.complete-climb.ensures.left (record { request = c.in_ok-slot.transfer.request; parts = c.new.result }) c.new.ensures.items (books_of c.fill.new.self) c.fill.ensures

pub invariant_of-self-2 : goal.invariant_of-self-2
invariant_of-self-2 g c = record {
  takes = c.self.invariant.takes;
  in_hand = subst (λ (t : Table). IsInHand (g.D.Shown.view c.free_parts.new.self.device) (books_of t)) (sym c.free_parts.ensures.table)
      (in_hand_left _ (books_of c.self.inside.extension.table) c.self.invariant.in_hand c.self.invariant.in_hand.rooms_out.orderly
      c.self.inside.extension.table.slots.slots refl c.in_ok-slot.slot (opened_of c.in_ok-slot.transfer) (books_of c.take_ended.new.self) c.in_ok-slot.ensures.takes
      c.complete-climb.result.1.items c.complete-climb.ensures.left (record { request = c.in_ok-slot.transfer.request; parts = c.new.result }) c.new.ensures.items (books_of c.fill.new.self) c.fill.ensures
      (g.D.Shown.view c.free_parts.new.self.device) c.free_parts.ensures.same
      (c.free_parts.ensures.out _ (parts_first _ (books_of c.self.inside.extension.table) c.self.invariant.in_hand c.self.invariant.in_hand.rooms_out.orderly
      c.self.inside.extension.table.slots.slots refl c.in_ok-slot.slot (opened_of c.in_ok-slot.transfer) (books_of c.take_ended.new.self) c.in_ok-slot.ensures.takes
      c.complete-climb.result.1.items c.complete-climb.ensures.left (record { request = c.in_ok-slot.transfer.request; parts = c.new.result }) c.new.ensures.items (books_of c.fill.new.self) c.fill.ensures))
      (apart_in _ c.fill.new.self.slots.slots refl refl));
}

pub returns : goal.returns
returns g c = rw (← c.self.view_is) (record {
  hands_up = subst (λ (t : Table). HandsUp false (view_of (g.D.Shown.view c.self.inside.extension.device) (books_of c.self.inside.extension.table)) c.complete-climb.result.0 c.in_ok-slot.slot (view_of (g.D.Shown.view c.free_parts.new.self.device) (books_of t))) (sym c.free_parts.ensures.table)
      (hands_up _ (books_of c.self.inside.extension.table) c.self.invariant.in_hand c.self.invariant.in_hand.rooms_out.orderly
      c.self.inside.extension.table.slots.slots refl c.in_ok-slot.slot (opened_of c.in_ok-slot.transfer) (books_of c.take_ended.new.self) c.in_ok-slot.ensures.takes
      c.complete-climb.result.0 c.complete-climb.result.1.items c.complete-climb.ensures (record { request = c.in_ok-slot.transfer.request; parts = c.new.result }) c.new.ensures.items refl
      (books_of c.fill.new.self) c.fill.ensures (g.D.Shown.view c.free_parts.new.self.device) c.free_parts.ensures.same);
})
