-- Rooms are made below, for one part after the other.
use Rattle.std.proofs.Common.{◌≡◌, ◌≢◌, ◌≤◌, ℕ, ◌+◌, List, [], ◌∷◌, ◌++◌, Option, Some, None, refl, sym, ◌∙◌, ap, subst, arith, map, length}
use Rattle.std.specs.Prelude.{All}
use Rattle.class_disk.proofs.Common.{map-append, All-nil, All-cons, All-head, All-tail, All-weaker, Request, Ticket, IsGood, ticket_spot, AllOut, ReservesSpot, ReservesNone, Frees, PartId, Place, TransferPacket, Ready, IsSpotted, StaysOwned, StaysTaken, MakesNone, MakesRoom, MakesParts}
use Rattle.device.specs.View.{DeviceView, Packet, Reserved, room_at, whole_for, packet_spot, IsOffRooms, IsOrderly}
use Rattle.class_disk.proofs.Rooms.{out_more, out_less, out_same}
use Rattle.class_disk.specs.declared.parts.Part.{Part}
use Rattle.class_disk.specs.inside.Parts.{IsHere, ticket_for, ticket_by, tickets_of}
use Rattle.class_disk.specs.inside.Owners.{IsOwner, IsOwnedBy, AreOwnedFrom, KeepsOwners, OwnsSpot}
use Rattle.class_disk.proofs.Owned.{owned_joined}
use Rattle.class_disk.proofs.PartRooms.{put_behind}
use Rattle.class_disk.proofs.Reserving.{reserves_same, reserves_joined, reserves_freed, owned_stays, here_spotted, all_both}

-- OTHER SPOTS

none_some : {X : Type 0} (x : X) → None ≡ Some x → ⊥
none_some x e = absurd (cc (e))

others_differ : (v : DeviceView) (spot : ℕ) (tickets : List Ticket) → room_at v.rooms spot ≡ None → All (IsGood v) tickets → All (λ x. x ≢ spot) (map ticket_spot tickets)
others_differ v spot [] vacant h = All-nil (λ x. x ≢ spot)
others_differ v spot (t ∷ ts) vacant h =
    All-cons (λ x. x ≢ spot) t.spot (map ticket_spot ts)
    (λ same. none_some t.reserved (sym vacant ∙ ap (room_at v.rooms) (sym same) ∙ All-head (IsGood v) t ts h))
    (others_differ v spot ts vacant (All-tail (IsGood v) t ts h))

packets_differ : (rooms : List (Option Reserved)) (spot : ℕ) (reserved : Reserved) (packets : List Packet) → room_at rooms spot ≡ Some reserved → All (IsOffRooms rooms) packets
    → All (λ x. x ≢ spot) (map packet_spot packets)
packets_differ rooms spot reserved [] is h = All-nil (λ x. x ≢ spot)
packets_differ rooms spot reserved (p ∷ ps) is h =
    All-cons (λ x. x ≢ spot) p.spot (map packet_spot ps)
    (λ same. none_some reserved (sym (All-head (IsOffRooms rooms) p ps h) ∙ ap (room_at rooms) same ∙ is))
    (packets_differ rooms spot reserved ps is (All-tail (IsOffRooms rooms) p ps h))

all_stay : (owners owners' : List PartId) → KeepsOwners owners owners' → (spots : List ℕ) → All (StaysOwned owners owners') spots
all_stay owners owners' k [] = All-nil (StaysOwned owners owners')
all_stay owners owners' k (x ∷ xs) = All-cons (StaysOwned owners owners') x xs (λ inside. k.same x inside) (all_stay owners owners' k xs)

keeps_itself : (owners : List PartId) → KeepsOwners owners owners
keeps_itself owners = record { longer = omega arith; same = λ spot inside. refl }

stay_then : (a b c : List PartId) → length a ≤ length b → (spots : List ℕ) → All (StaysOwned a b) spots → All (StaysOwned b c) spots → All (StaysOwned a c) spots
stay_then a b c longer [] h k = All-nil (StaysOwned a c)
stay_then a b c longer (x ∷ xs) h k =
    All-cons (StaysOwned a c) x xs
    (λ inside. All-head (StaysOwned b c) x xs k (omega arith) ∙ All-head (StaysOwned a b) x xs h inside)
    (stay_then a b c longer xs (All-tail (StaysOwned a b) x xs h) (All-tail (StaysOwned b c) x xs k))

-- ONE ROOM

module _ (v v1 : DeviceView) (owners owners' : List PartId) (r : Request) (spot : ℕ) (reserves : ReservesSpot v spot r v1) (ordered : IsOrderly v1) where
  same_packets : v1.packets ≡ v.packets
  same_packets = ap (λ (x : DeviceView). x.packets) reserves.reserves.same

  pub room_made : (id : PartId) → OwnsSpot owners spot id owners' → MakesRoom v owners id r spot v1 owners'
  room_made id owns = record {
    stays = record {
      reserves = reserves.reserves;
      longer = owns.longer;
      held = λ others out. All-weaker (λ x. x ≢ spot) (StaysOwned owners owners') (λ x differs inside. owns.others x inside differs) (map ticket_spot others)
          (others_differ v spot others reserves.room.was out.good);
      below = All-weaker (λ x. x ≢ spot) (StaysOwned owners owners') (λ x differs inside. owns.others x inside differs) (map packet_spot v.packets)
          (subst (λ ps. All (λ x. x ≢ spot) (map packet_spot ps)) same_packets (packets_differ v1.rooms spot (whole_for r) v1.packets reserves.room.is ordered.vacant));
    };
    out = λ others out. out_more v v1 spot (whole_for r) others ordered reserves.room out;
    owned = (ap (λ (x : PartId). x.slot) owns.is, ap (λ (x : PartId). x.part) owns.is, owns.inside);
  }

  -- it is given back
  pub room_refused : (v2 : DeviceView) → KeepsOwners owners owners' → Frees v1 spot v2 → IsOrderly v2 → MakesNone v owners v2 owners'
  room_refused v2 keeps frees ordered' = record {
    stays = record {
      reserves = reserves_joined v v1 v2 reserves.reserves (reserves_freed v1 v2 frees.same);
      longer = keeps.longer;
      held = λ others out. all_stay owners owners' keeps (map ticket_spot others);
      below = all_stay owners owners' keeps (map packet_spot v.packets);
    };
    out = λ others out. out_less v1 v2 (record { spot = spot; reserved = whole_for r }) (Some frees.reserved) others ordered' frees.room
        (out_more v v1 spot (whole_for r) others ordered reserves.room out);
  }

-- nothing changed
pub none_asked : (v : DeviceView) (owners : List PartId) → MakesNone v owners v owners
none_asked v owners = record {
  stays = record {
    reserves = reserves_same v;
    longer = omega arith;
    held = λ others out. all_stay owners owners (keeps_itself owners) (map ticket_spot others);
    below = all_stay owners owners (keeps_itself owners) (map packet_spot v.packets);
  };
  out = λ others out. out;
}

-- the layer below had no room
pub none_there : (v v1 : DeviceView) (owners : List PartId) → ReservesNone v v1 → IsOrderly v1 → MakesNone v owners v1 owners
none_there v v1 owners none ordered = record {
  stays = record {
    reserves = none.reserves;
    longer = omega arith;
    held = λ others out. all_stay owners owners (keeps_itself owners) (map ticket_spot others);
    below = all_stay owners owners (keeps_itself owners) (map packet_spot v.packets);
  };
  out = λ others out. out_same v v1 others ordered none.room out;
}

-- PARTS

-- a part with that room
pub part_made : (v : DeviceView) (owners : List PartId) (id : PartId) (r : Request) (packet : TransferPacket) (v' : DeviceView) (owners' : List PartId) (part : Part)
    → part.request ≡ r → (place : Place) → part.progress ≡ Ready place → place.packet ≡ packet → MakesRoom v owners id r packet.room.spot v' owners'
    → MakesParts v owners id.slot id.part (part ∷ []) v' owners'
part_made v owners id r packet v' owners' part is place ready same m = record {
  stays = m.stays;
  out = λ others out. subst (λ ts. AllOut v' (ts ++ others)) (sym tickets) (m.out others out);
  owned = (subst (IsOwnedBy owners' id.slot id.part) (sym ready) (subst (λ (p : TransferPacket). IsOwner owners' p.room.spot id.slot id.part) (sym same) m.owned), tt);
}
  where
    tickets : tickets_of (part ∷ []) ≡ ticket_for r packet ∷ []
    tickets = ap (λ p. ticket_by part.request p ++ []) ready ∙ ap (λ (p : TransferPacket). ticket_for part.request p ∷ []) same ∙ ap (λ q. ticket_for q packet ∷ []) is

pub no_parts : (v : DeviceView) (owners : List PartId) (slot : ℕ) → MakesParts v owners slot 0 [] v owners
no_parts v owners slot = record { stays = (none_asked v owners).stays; out = λ others out. out; owned = tt }

module _ (v v1 v2 : DeviceView) (o o1 o2 : List PartId) (slot : ℕ) (front : List Part) (m : MakesParts v o slot 0 front v1 o1) (next : StaysTaken v1 o1 v2 o2) where
  both_stay : StaysTaken v o v2 o2
  both_stay = record {
    reserves = reserves_joined v v1 v2 m.stays.reserves next.reserves;
    longer = let a = m.stays.longer in let b = next.longer in omega arith;
    held = λ others out.
        let all = all_both (StaysOwned o1 o2) _ _ (subst (All (StaysOwned o1 o2)) (map-append ticket_spot (tickets_of front) others) (next.held (tickets_of front ++ others) (m.out others out))) in
        stay_then o o1 o2 m.stays.longer (map ticket_spot others) (m.stays.held others out) all.1;
    below = stay_then o o1 o2 m.stays.longer (map packet_spot v.packets) m.stays.below
        (subst (λ ps. All (StaysOwned o1 o2) (map packet_spot ps)) (ap (λ (x : DeviceView). x.packets) m.stays.reserves.same) next.below);
  }

  front_owned : (others : List Ticket) → AllOut v others → All IsHere front → AreOwnedFrom o2 slot 0 front
  front_owned others out here =
      let all = all_both (StaysOwned o1 o2) _ _ (subst (All (StaysOwned o1 o2)) (map-append ticket_spot (tickets_of front) others) (next.held (tickets_of front ++ others) (m.out others out))) in
      owned_stays o1 o2 next.longer v1.packets next.below slot 0 front all.0 (All-weaker IsHere (IsSpotted v1.packets) (here_spotted v1.packets) front here) m.owned

zero_more : (n : ℕ) → n ≡ 0 + n
zero_more n = omega arith

-- one part more
pub one_more : (v v1 v2 : DeviceView) (o o1 o2 : List PartId) (slot k : ℕ) (items front : List Part) (part : Part) (known : List Ticket) → AllOut v known → All IsHere front → items ≡ front ++ part ∷ [] → k ≡ length front
    → MakesParts v o slot 0 front v1 o1 → MakesParts v1 o1 slot k (part ∷ []) v2 o2 → MakesParts v o slot 0 items v2 o2
one_more v v1 v2 o o1 o2 slot k items front part known out_known here is at m next = record {
  stays = both_stay v v1 v2 o o1 o2 slot front m next.stays;
  out = λ others out. put_behind v2 items front part is others (next.out (tickets_of front ++ others) (m.out others out));
  owned = subst (AreOwnedFrom o2 slot 0) (sym is)
      (owned_joined o2 slot 0 front (part ∷ []) (front_owned v v1 v2 o o1 o2 slot front m next.stays known out_known here) (subst (λ n. AreOwnedFrom o2 slot n (part ∷ [])) (at ∙ zero_more (length front)) next.owned));
}

-- no part more
pub no_more : (v v1 v2 : DeviceView) (o o1 o2 : List PartId) (slot : ℕ) (front : List Part) (known : List Ticket) → AllOut v known → All IsHere front
    → MakesParts v o slot 0 front v1 o1 → MakesNone v1 o1 v2 o2 → MakesParts v o slot 0 front v2 o2
no_more v v1 v2 o o1 o2 slot front known out_known here m next = record {
  stays = both_stay v v1 v2 o o1 o2 slot front m next.stays;
  out = λ others out. next.out (tickets_of front ++ others) (m.out others out);
  owned = front_owned v v1 v2 o o1 o2 slot front m next.stays known out_known here;
}

-- all are given back
pub all_back : (v v1 v2 : DeviceView) (o o1 : List PartId) (slot : ℕ) (parts : List Part) → MakesParts v o slot 0 parts v1 o1 → v2 ≡ record v1 { rooms = v2.rooms }
    → ((others : List Ticket) → AllOut v1 (tickets_of parts ++ others) → AllOut v2 others) → MakesNone v o v2 o1
all_back v v1 v2 o o1 slot parts m same back = record {
  stays = record {
    reserves = reserves_joined v v1 v2 m.stays.reserves (reserves_freed v1 v2 same);
    longer = m.stays.longer;
    held = m.stays.held;
    below = m.stays.below;
  };
  out = λ others out. back others (m.out others out);
}
