-- One packet that ended, from the layer below into the table, or below again.
use Rattle.std.proofs.Common.{◌≡◌, ◌<◌, Bool, true, List, ◌∷◌, Some, None, sym, ◌∙◌, ap, subst, length}
use Rattle.class_disk.proofs.Common.{slice_get, Climb, Finished, information, State, DeviceLabel, DeviceView, IsOrderly, whole_for, HandsUp, SetsRoom, Climbs, FinishesPacket, Ticket, PartId, Outcome, TransferPacket, Way, Returned, AllOut, owner_at, slot_at, place_at, EndsAs, HasReason, GoesAgain, ticket_for, Opened, TableView, open_at, ended_at, ended_books, tickets, IsMidway, TakesOne, CanSendAgain, SendsDownAgain}
use Rattle.class_disk.specs.declared.parts.Part.{Part}
use Rattle.class_disk.specs.inside.Invariant.{EndedBy, WasSent}
use Rattle.class_disk.proofs.Standing.{AreRising}
use Rattle.class_disk.proofs.Rooms.{out_more}
use Rattle.class_disk.proofs.Handed.{Handed, handed, ends_there, has_place, spot_inside}
use Rattle.class_disk.proofs.HandedPart.{same_request}
use Rattle.class_disk.proofs.EndingParts.{takes_ended}
use Rattle.class_disk.proofs.Resending.{can_again, takes_again}

-- THE ROOM OF A PACKET THAT IS HANDED UP is out again
out_handed : {takes : Bool} (v : DeviceView) (climb : Climb) (packet : TransferPacket) (v' : DeviceView) (h : HandsUp takes v climb packet.room.spot v')
    → takes ≡ true → IsOrderly v' → (others : List Ticket) → AllOut v others → AllOut v' (ticket_for h.answer.request packet ∷ others)
out_handed v climb packet v' h takes_srb ordered others out =
    out_more v v' packet.room.spot (whole_for h.answer.request) others ordered
    (subst (λ w. SetsRoom v.rooms packet.room.spot None (Some (record { request = h.answer.request; whole = w })) v'.rooms) (h.left.is_whole takes_srb) h.left.room) out

module _ {takes : Bool} (way : Way) {v : DeviceView} {b : TableView} (r : AreRising 0 b.opens) {first : State} {labels : List DeviceLabel}
    (m : IsMidway (EndedBy way) first labels v b) (packet : TransferPacket) {climb : Climb} {v' : DeviceView} (h : HandsUp takes v climb packet.room.spot v') where
  d : Handed b h.answer.packet.number h.answer.packet.spot
  d = handed (EndedBy way) first labels v b m r climb packet.room.spot v' m.rooms_out.orderly h

  -- its spot has an owner
  pub owner_inside : packet.room.spot < length b.owners
  owner_inside = subst (λ n. n < length b.owners) h.answer.is_spot (spot_inside (EndedBy way) first labels v b m r h.answer.packet.number h.answer.packet.spot d)

  module _ (is : climb ≡ Finished packet.irp) (id : PartId) (id_is : id ≡ owner_at b.owners packet.room.spot) where
    fact : FinishesPacket h.answer.packet.above h.answer.packet.number h.answer.answers.request.cancelled h.answer.status (information h.answer.answers.request.request h.answer.status) h.answer.payload packet.irp.value
    fact = subst (Climbs h.answer.packet.above h.answer.packet.number h.answer.answers.request.cancelled h.answer.status (information h.answer.answers.request.request h.answer.status) h.answer.payload) is h.climbs

    its_stand : (open_at (slot_at b.owners h.answer.packet.spot) b.opens ≡ Some d.o) × (slice_get d.o.parts (place_at b.owners h.answer.packet.spot) ≡ Some d.part) × (0 < d.o.unfinished)
    its_stand = ends_there (EndedBy way) first labels v b m r h.answer.packet.number h.answer.packet.spot d

    its_slot : id.slot ≡ slot_at b.owners h.answer.packet.spot
    its_slot = ap (λ (x : PartId). x.slot) id_is ∙ ap (slot_at b.owners) (sym h.answer.is_spot)

    its_place : id.part ≡ place_at b.owners h.answer.packet.spot
    its_place = ap (λ (x : PartId). x.part) id_is ∙ ap (place_at b.owners) (sym h.answer.is_spot)

    its_request : open_at id.slot b.opens ≡ Some d.o
    its_request = subst (λ n. open_at n b.opens ≡ Some d.o) (sym its_slot) its_stand.0

    its_part : slice_get d.o.parts id.part ≡ Some d.part
    its_part = subst (λ n. slice_get d.o.parts n ≡ Some d.part) (sym its_place) its_stand.1

    pub is_open_there : (o : Opened) × (open_at id.slot b.opens ≡ Some o)
    is_open_there = (d.o, its_request)

    pub end_needs : (o : Opened) × (part : Part) × (open_at id.slot b.opens ≡ Some o) × (slice_get o.parts id.part ≡ Some part) × (0 < o.unfinished)
    end_needs = (d.o, d.part, its_request, its_part, its_stand.2)

    pub end_place : length b.ended < b.ended_places
    end_place = has_place (EndedBy way) first labels v b m r h.answer.packet.number h.answer.packet.spot d

    module _ (takes_srb : takes ≡ true) (ordered : IsOrderly v') where
      -- its part ends, as the table has it
      pub one_ended : (outcome : Outcome)
          → ((o : Opened) → open_at id.slot b.opens ≡ Some o → EndsAs way packet.irp.value.io_status.status outcome × HasReason o.irp.cancelled b.removing o.restarts outcome) → (b' : TableView)
          → ((o : Opened) (part : Part) → open_at id.slot b.opens ≡ Some o → slice_get o.parts id.part ≡ Some part
          → b' ≡ ended_books id.slot (ended_at id.part (record { packet = packet; outcome = outcome }) part o) b)
          → TakesOne way v b v' b'
      one_ended outcome ends b' after =
          let e = ends d.o its_request in
          let there : b' ≡ ended_books (slot_at b.owners h.answer.packet.spot) (ended_at (place_at b.owners h.answer.packet.spot) (record { packet = packet; outcome = outcome }) d.part d.o) b =
          after d.o d.part its_request its_part
          ∙ ap (λ s. ended_books s (ended_at id.part (record { packet = packet; outcome = outcome }) d.part d.o) b) its_slot
          ∙ ap (λ i. ended_books (slot_at b.owners h.answer.packet.spot) (ended_at i (record { packet = packet; outcome = outcome }) d.part d.o) b) its_place in
          subst (TakesOne way v b v') (sym there)
          (takes_ended v b climb packet.room.spot v' h m.rooms_out.orderly packet fact.payload_is (out_handed v climb packet v' h takes_srb ordered) d its_stand.2 way outcome
          (subst (λ t. EndsAs way t outcome) fact.status_is e.0) e.1 m.port)

      -- or goes below again
      module _ (goes : (o : Opened) → open_at id.slot b.opens ≡ Some o → GoesAgain way o.irp.cancelled b.removing o.restarts packet.irp.value.io_status.status) where
        came_back : way ≡ Returned
        came_back = (goes d.o its_request).came_back

        m_back : IsMidway WasSent first labels v b
        m_back = subst (λ w. IsMidway (EndedBy w) first labels v b) came_back m

        goes_there : GoesAgain Returned d.o.irp.cancelled b.removing d.o.restarts h.answer.status
        goes_there = subst (GoesAgain Returned d.o.irp.cancelled b.removing d.o.restarts) fact.status_is
            (subst (λ w. GoesAgain w d.o.irp.cancelled b.removing d.o.restarts packet.irp.value.io_status.status) came_back (goes d.o its_request))

        pub again_needs : (others : List Ticket) × (o : Opened) × (part : Part) × CanSendAgain v' b id.slot id.part packet others o part
        again_needs = (
          tickets b,
          d.o,
          d.part,
          subst (λ n. CanSendAgain v' b n id.part packet (tickets b) d.o d.part) (sym its_slot)
              (subst (λ n. CanSendAgain v' b (slot_at b.owners h.answer.packet.spot) n packet (tickets b) d.o d.part) (sym its_place)
              (can_again v b packet climb v' h m.rooms_out.orderly takes_srb fact.payload_is (out_handed v climb packet v' h takes_srb ordered) d goes_there first labels m_back its_stand.0 its_stand.1)),
        )

        pub one_again : (v'' : DeviceView) (b'' : TableView)
            → ((o : Opened) (part : Part) → open_at id.slot b.opens ≡ Some o → slice_get o.parts id.part ≡ Some part → SendsDownAgain v' b id.slot id.part packet o part v'' b'')
            → TakesOne way v b v'' b''
        one_again v'' b'' sends =
            subst (λ w. TakesOne w v b v'' b'') (sym came_back)
            (takes_again v b packet climb v' h m.rooms_out.orderly takes_srb fact.payload_is (out_handed v climb packet v' h takes_srb ordered) d goes_there ordered v'' b''
            (subst (λ n. SendsDownAgain v' b n (place_at b.owners h.answer.packet.spot) packet d.o d.part v'' b'') its_slot
            (subst (λ n. SendsDownAgain v' b id.slot n packet d.o d.part v'' b'') its_place
            (sends d.o d.part its_request its_part)))
            (same_request h m.rooms_out.orderly d m))
