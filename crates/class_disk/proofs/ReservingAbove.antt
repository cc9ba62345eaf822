-- A room is made for a request, or none: what the class driver shows.
use Rattle.std.proofs.Common.{ℕ, ◌≡◌, ◌≤◌, ◌+◌, true, List, ◌∷◌, Some, None, refl, sym, ◌∙◌, ap, subst, arith, length, map}
use Rattle.std.specs.Prelude.{All, IsPermutation}
use Rattle.class_disk.proofs.Common.{ReservesMore, packets_apart, DeviceView, room_at, whole_for, HasOtherSpot, Reserves, ReservesSpot, ReservesNone, SetsRoom, PartId, TableView, ClosedSlot, class_rules, AddsSlot, AddsNoSlot, StaysTaken, MakesNone, MakesParts, Sizes, AreSizes, IsBounded, AreNewParts, part_count_of, is_whole}
use Rattle.class_disk.specs.inside.Driver.{view_of, packet_above, IsInHand, IsHeld, tickets}
use Rattle.class_disk.proofs.Standing.{IsApart}
use Rattle.class_disk.proofs.Reserving.{in_hand_refused, in_hand_made}
use Rattle.class_disk.proofs.NewParts.{new_held, new_whole}

module _ (v : DeviceView) (b b1 : TableView) (h : IsInHand v b) (grows : AddsNoSlot b b1) (v2 : DeviceView) (o2 : List PartId) (n2 : ℕ) where
  -- slots, rooms and owners may be others, and there may be more room
  abbrev IsGrown : TableView → Type 0
  IsGrown x = x ≡ record b { held = x.held; rooms = x.rooms; owners = x.owners; ended_places = x.ended_places; slot_places = x.slot_places; owner_places = x.owner_places }

  -- the same with the slots as they were
  abbrev IsRoomier : TableView → Type 0
  IsRoomier x = x ≡ record b { owners = x.owners; ended_places = x.ended_places; slot_places = x.slot_places; owner_places = x.owner_places }

  stays_from : StaysTaken v b1.owners v2 o2 → StaysTaken v b.owners v2 o2
  stays_from s = subst (λ o. StaysTaken v o v2 o2) (ap (λ (x : TableView). x.owners) grows.after) s

  -- the same is reserved of the adapter as below
  reserves_above : Reserves v v2 → (b' : TableView) → IsGrown b' → Reserves (view_of v b) (view_of v2 b')
  reserves_above r b' same =
      let more : ReservesMore v.adapter (record v.adapter { reserved = v2.adapter.reserved }) = subst (ReservesMore v.adapter) (ap (λ (x : DeviceView). x.adapter) r.same) r.adapter in
      subst (λ (x : DeviceView). Reserves (view_of v b) (view_of x b')) (sym r.same)
      (subst (λ (x : TableView). Reserves (view_of v b) (view_of (record v { rooms = v2.rooms; places = v2.places; adapter = record v.adapter { reserved = v2.adapter.reserved } }) x)) (sym same)
      (record { same = refl; adapter = more }))

  -- none is made
  pub refused_there : (b2 : TableView) → b2 ≡ record b1 { owners = o2; owner_places = n2 } → MakesNone v b1.owners v2 o2 → IsInHand v2 b2 × ReservesNone (view_of v b) (view_of v2 b2)
  refused_there b2 after m =
      let s = stays_from m.stays in
      let owners : b2.owners ≡ o2 = ap (λ (x : TableView). x.owners) after in
      let rooms : b2.rooms ≡ b.rooms = ap (λ (x : TableView). x.rooms) after ∙ ap (λ (x : TableView). x.rooms) grows.after in
      let places : b2.ended_places ≡ b1.ended_places = ap (λ (x : TableView). x.ended_places) after in
      let short : b2 ≡ record b { owners = o2; ended_places = b1.ended_places; slot_places = b1.slot_places; owner_places = n2 } = after ∙ ap (λ (x : TableView). record x { owners = o2; owner_places = n2 }) grows.after in
      let more : b.ended_places ≤ b2.ended_places = let g = grows.places in omega (arith, places, g) in
      let whole : IsRoomier b2 = subst IsRoomier (sym short) refl in
      let full : IsGrown b2 = subst IsGrown (sym short) refl in (
        in_hand_refused v v2 b b2 h (subst (StaysTaken v b.owners v2) (sym owners) s) whole more (m.out (tickets b) h.rooms_out),
        record { reserves = reserves_above m.stays.reserves b2 full; room = λ spot. ap (λ rs. room_at rs spot) rooms },
      )

  -- one is made
  pub reserved_above : (b2 : TableView) → b2 ≡ record b1 { owners = o2; owner_places = n2 } → (new : ClosedSlot) → IsBounded (class_rules v.rules) new.request → AreNewParts b1.sizes new.request (part_count_of b1.sizes.max_transfer new.request) new.parts → MakesParts v b1.owners new.slot 0 new.parts v2 o2 → (b3 : TableView) → AddsSlot b2 new b3
      → IsApart b3 → length b1.held + length b1.opens + 1 ≤ b1.ended_places
      → IsInHand v2 b3 × ReservesSpot (view_of v b) new.slot new.request (view_of v2 b3)
  reserved_above b2 after new bounded made m b3 adds apart few =
      let sizes : AreSizes b1.sizes (class_rules v.rules) = subst (λ (x : Sizes). AreSizes x (class_rules v.rules)) (sym (ap (λ (x : TableView). x.sizes) grows.after)) h.kept.sizes in
      let is_held : IsHeld (class_rules v.rules) o2 new = new_held b1.sizes new.request (class_rules v.rules) o2 new refl sizes bounded made m.owned in
      let all_there : is_whole new.parts ≡ true = new_whole b1.sizes new.request (class_rules v.rules) sizes h.port.some_transfer bounded new.parts made in
      let s = stays_from m.stays in
      let from : b3 ≡ record b { held = b3.held; rooms = b3.rooms; owners = o2; ended_places = b1.ended_places; slot_places = b1.slot_places; owner_places = n2 } =
      adds.after ∙ ap (λ (x : TableView). record x { held = b3.held; rooms = b3.rooms }) after ∙ ap (λ (x : TableView). record x { held = b3.held; rooms = b3.rooms; owners = o2; owner_places = n2 }) grows.after in
      let owners : b3.owners ≡ o2 = ap (λ (x : TableView). x.owners) from in
      let places : b3.ended_places ≡ b1.ended_places = ap (λ (x : TableView). x.ended_places) from in
      let full : IsGrown b3 = subst IsGrown (sym from) refl in
      let held : b2.held ≡ b.held = ap (λ (x : TableView). x.held) after ∙ ap (λ (x : TableView). x.held) grows.after in
      let rooms : b2.rooms ≡ b.rooms = ap (λ (x : TableView). x.rooms) after ∙ ap (λ (x : TableView). x.rooms) grows.after in
      let held1 : b1.held ≡ b.held = ap (λ (x : TableView). x.held) grows.after in
      let opens1 : b1.opens ≡ b.opens = ap (λ (x : TableView). x.opens) grows.after in
      let fits : length b.held + length b.opens + 1 ≤ b3.ended_places = let p = ap length held1 in let q = ap length opens1 in omega (arith, few, p, q, places) in
      let set : SetsRoom b.rooms new.slot None (Some (whole_for new.request)) b3.rooms =
      subst (λ rs. SetsRoom rs new.slot None (Some (whole_for new.request)) b3.rooms) rooms
      (subst (λ w. SetsRoom b2.rooms new.slot None (Some (record { request = new.request; whole = w })) b3.rooms) all_there adds.room) in
      let opens : b3.opens ≡ b.opens = ap (λ (x : TableView). x.opens) full in
      let packets : All (HasOtherSpot new.slot) (map packet_above b.opens) =
      subst (λ os. All (HasOtherSpot new.slot) (map packet_above os)) opens
      (packets_apart b3.rooms new.slot (whole_for new.request) (map packet_above b3.opens) set.is apart.vacant) in (
        in_hand_made v v2 b b3 h (subst (StaysTaken v b.owners v2) (sym owners) s) new full (subst (λ hs. IsPermutation b3.held (new ∷ hs)) held adds.more) fits
            (subst (λ o. IsHeld (class_rules v.rules) o new) (sym owners) is_held) apart (m.out (tickets b) h.rooms_out),
        record { reserves = reserves_above m.stays.reserves b3 full; apart = packets; room = set },
      )
