-- A part is sent: what the layer below asks for.
use Rattle.std.proofs.Common.{◌≡◌, ◌≤◌, ℕ, ◌+◌, Bool, true, List, Some, sym, ◌∙◌, ap, subst, arith, length}
use Rattle.class_disk.proofs.Common.{slice_get, Request, DeviceView, Carries, IsReady, AsksInLocation, request_at, request_of, room_at, whole_for, packet_of, IsOrderly, Submits, Ticket, Room, Place, TransferPacket, TakesParts, IsOwnPacket, payload_in, ticket_for, Opened, TableView, open_at, SendsPart, SendsPartAgain, CanSubmit, CanSendPart, CanSendAgain, SendsDown, SendsDownAgain}
use Rattle.class_disk.proofs.Rooms.{out_first}
use Rattle.class_disk.specs.declared.parts.Part.{Part}

some_same : {X : Type 0} {x y : X} → Some x ≡ Some y → x ≡ y
some_same {X} {x} {y} e = cc (e)

-- the one part that is open there
pub one_part : (b : TableView) (slot k : ℕ) (o o' : Opened) (part part' : Part) → open_at slot b.opens ≡ Some o → slice_get o.parts k ≡ Some part
    → open_at slot b.opens ≡ Some o' → slice_get o'.parts k ≡ Some part' → part ≡ part'
one_part b slot k o o' part part' is_open is_there open' there' =
    let same : o' ≡ o = some_same (sym open' ∙ is_open) in
    some_same (sym is_there ∙ ap (λ (x : Opened). slice_get x.parts k) (sym same) ∙ there')

-- a packet of the class driver's own can be submitted, in a room that is out for its request
module _ (takes : Bool) (stack : ℕ) (t : TakesParts takes stack) (v : DeviceView) (b : TableView) (old : TransferPacket) (others : List Ticket) (r : Request) (c : CanSubmit v b old others r)
    (packet : TransferPacket) (room : packet.room ≡ old.room) (own : IsOwnPacket b.next_packet r (payload_in packet) packet.irp.value) where
  room_is : room_at v.rooms packet.room.spot ≡ Some (whole_for r)
  room_is = ap (λ (x : Room). room_at v.rooms x.spot) room ∙ out_first v (ticket_for r old) others c.rooms_out

  pub asked_is : request_at v.rooms packet.room.spot ≡ r
  asked_is = ap request_of room_is

  pub is_ready : IsReady v.rooms packet.room.spot
  is_ready = room_is ∙ ap (λ q. Some (whole_for q)) (sym asked_is)

  pub number_high : v.state.next_request ≤ packet.irp.value.number
  number_high = subst (λ n. v.state.next_request ≤ n) (sym own.is_number) c.number

  pub few_locations : length packet.irp.value.locations.items + stack ≤ 5
  few_locations = let one = ap length own.location in let four = t.locations in omega (arith, one, four)

  pub asks_there : AsksInLocation true r packet.irp.value → AsksInLocation takes (request_at v.rooms packet.room.spot) packet.irp.value
  asks_there a =
      subst (λ x. AsksInLocation x (request_at v.rooms packet.room.spot) packet.irp.value) (sym t.takes)
      (subst (λ q. AsksInLocation true q packet.irp.value) (sym asked_is) a)

  pub carries_there : Carries true v.rules r (payload_in packet) → Carries takes v.rules (request_at v.rooms packet.room.spot) packet.irp.value.payload
  carries_there a =
      subst (λ x. Carries x v.rules (request_at v.rooms packet.room.spot) packet.irp.value.payload) (sym t.takes)
      (subst (λ q. Carries true v.rules q packet.irp.value.payload) (sym asked_is) a)

-- THE TWO WAYS DOWN

-- what a part's own packet is
pub own_sent : (b : TableView) (slot k : ℕ) (o : Opened) (part : Part) (place : Place) (packet : TransferPacket) (sent : TableView) (s : SendsPart b slot k o part place packet sent)
    → IsOwnPacket b.next_packet part.request (payload_in packet) packet.irp.value
own_sent b slot k o part place packet sent s = subst (λ p. IsOwnPacket b.next_packet part.request p packet.irp.value) (sym s.sends.own.is_payload) s.sends.own

pub own_again : (b : TableView) (slot k : ℕ) (old : TransferPacket) (o : Opened) (part : Part) (packet : TransferPacket) (sent : TableView) (s : SendsPartAgain b slot k old o part packet sent)
    → IsOwnPacket b.next_packet part.request (payload_in packet) packet.irp.value
own_again b slot k old o part packet sent s = subst (λ p. IsOwnPacket b.next_packet part.request p packet.irp.value) (sym s.sends.own.is_payload) s.sends.own

pub carries_sent : (v : DeviceView) (b : TableView) (slot k : ℕ) (others : List Ticket) (o : Opened) (part : Part) (place : Place) → CanSendPart v b slot k others o part place
    → (packet : TransferPacket) (sent : TableView) (s : SendsPart b slot k o part place packet sent) → Carries true v.rules part.request (payload_in packet)
carries_sent v b slot k others o part place c packet sent s =
    subst (Carries true v.rules part.request) (sym s.sends.own.is_payload) (s.sends.carries v.rules c.submit.sizes)

pub carries_again : (v : DeviceView) (b : TableView) (slot k : ℕ) (old : TransferPacket) (others : List Ticket) (o : Opened) (part : Part) → CanSendAgain v b slot k old others o part
    → (packet : TransferPacket) (sent : TableView) (s : SendsPartAgain b slot k old o part packet sent) → Carries true v.rules part.request (payload_in packet)
carries_again v b slot k old others o part c packet sent s = subst (Carries true v.rules part.request) (sym s.sends.own.is_payload) c.carries

-- as the class driver's caller knows the part
pub sends_there : (takes : Bool) (stack : ℕ) (t : TakesParts takes stack) (v : DeviceView) (b : TableView) (slot k : ℕ) (others : List Ticket) (o1 : Opened) (part1 : Part) (place1 : Place)
    (c : CanSendPart v b slot k others o1 part1 place1) (packet : TransferPacket) (sent : TableView) (s1 : SendsPart b slot k o1 part1 place1 packet sent)
    (o : Opened) (part : Part) (place : Place) → open_at slot b.opens ≡ Some o → slice_get o.parts k ≡ Some part → SendsPart b slot k o part place packet sent
    → (v' : DeviceView) → Submits v (packet_of packet.irp.value packet.room.spot) (request_at v.rooms packet.room.spot) packet.irp.value.payload v' → IsOrderly v'
    → SendsDown v b slot k o part place v' sent
sends_there takes stack t v b slot k others o1 part1 place1 c packet sent s1 o part place is_open is_there s v' h ordered = record {
  packet = packet;
  sends = s;
  submits = subst (λ (x : Room). Submits v (packet_of packet.irp.value x.spot) part.request packet.irp.value.payload v') s.sends.room
      (subst (λ y. Submits v (packet_of packet.irp.value packet.room.spot) y packet.irp.value.payload v')
      (asked_is takes stack t v b place1.packet others part1.request c.submit packet s1.sends.room (own_sent b slot k o1 part1 place1 packet sent s1)
      ∙ ap (λ (x : Part). x.request) (one_part b slot k o1 o part1 part c.is_open c.is_there is_open is_there)) h);
  ordered = ordered;
}

pub sends_again_there : (takes : Bool) (stack : ℕ) (t : TakesParts takes stack) (v : DeviceView) (b : TableView) (slot k : ℕ) (old : TransferPacket) (others : List Ticket) (o1 : Opened) (part1 : Part)
    (c : CanSendAgain v b slot k old others o1 part1) (packet : TransferPacket) (sent : TableView) (s1 : SendsPartAgain b slot k old o1 part1 packet sent)
    (o : Opened) (part : Part) → open_at slot b.opens ≡ Some o → slice_get o.parts k ≡ Some part → SendsPartAgain b slot k old o part packet sent
    → (v' : DeviceView) → Submits v (packet_of packet.irp.value packet.room.spot) (request_at v.rooms packet.room.spot) packet.irp.value.payload v' → IsOrderly v'
    → SendsDownAgain v b slot k old o part v' sent
sends_again_there takes stack t v b slot k old others o1 part1 c packet sent s1 o part is_open is_there s v' h ordered = record {
  packet' = packet;
  sends = s;
  submits = subst (λ p. Submits v (packet_of packet.irp.value old.room.spot) part.request p v') s.sends.own.is_payload
      (subst (λ (x : Room). Submits v (packet_of packet.irp.value x.spot) part.request packet.irp.value.payload v') s.sends.room
      (subst (λ y. Submits v (packet_of packet.irp.value packet.room.spot) y packet.irp.value.payload v')
      (asked_is takes stack t v b old others part1.request c.submit packet s1.sends.room (own_again b slot k old o1 part1 packet sent s1)
      ∙ ap (λ (x : Part). x.request) (one_part b slot k o1 o part1 part c.is_open c.is_there is_open is_there)) h));
  ordered = ordered;
}
