-- Rooms are made below, and given back: what the class driver shows, and that it stays in order.
use Rattle.std.proofs.Common.{◌≡◌, ◌≤◌, ℕ, zero, suc, ◌+◌, List, [], ◌∷◌, ◌++◌, Option, Result, Ok, Err, refl, sym, ◌∙◌, ap, subst, arith, append_assoc, map, length}
use Rattle.std.specs.Prelude.{IsPermutation, All, Any, OnErr}
use Rattle.class_disk.proofs.Common.{map-append, All-nil, All-cons, All-head, All-tail, All-weaker, IsPermutation-sym, IsPermutation-append_left, All-permutation, length_permutation, Extent, Request, Rules, AdapterView, reserves_none, ticket_spot, AllOut, Reserves, Frees, IsAt, PartId, Progress, Opened, TableView, ClosedSlot, opened, all_open, reserved_for, Places, class_rules, RemovesSlot, StaysOwned, StaysTaken, IsReadyPart, IsReadyBy, IsHereBy}
use Rattle.class_disk.proofs.Rooms.{out_any_order}
use Rattle.class_disk.proofs.AnyOrder.{held_same}
use Rattle.class_disk.proofs.Standing.{IsApart}
use Rattle.device.specs.View.{DeviceView, Packet, Reserved, packet_spot}
use Rattle.class_disk.specs.declared.parts.Part.{Part}
use Rattle.class_disk.specs.declared.parts.Progress.TheVariants.{Ready, Below, Ended}
use Rattle.class_disk.specs.inside.Parts.{IsHere, IsHereBy, ticket_by, tickets_of}
use Rattle.class_disk.specs.inside.Owners.{IsOwner, IsOwnedBy, AreOwnedFrom}
use Rattle.class_disk.specs.inside.Driver.{view_of, AreKept, IsInHand, IsHeld, IsOpen, IsSpotted, IsSpottedBy, AreSpotted, tickets, tickets_held, tickets_open}
use Rattle.class_disk.proofs.Handed.{ended_few}

-- WHOSE PARTS STAY WHERE THEY WERE

pub all_both : {X : Type 0} (P : X → Type 0) (xs ys : List X) → All P (xs ++ ys) → All P xs × All P ys
all_both P [] ys h = (All-nil P, h)
all_both P (x ∷ xs) ys h = let r = all_both P xs ys (All-tail P x (xs ++ ys) h) in (All-cons P x xs (All-head P x (xs ++ ys) h) r.0, r.1)

owner_stays : (owners owners' : List PartId) (spot slot k : ℕ) → length owners ≤ length owners' → StaysOwned owners owners' spot → IsOwner owners spot slot k → IsOwner owners' spot slot k
owner_stays owners owners' spot slot k longer stays (is_slot, is_place, inside) =
    let same = stays inside in (
      ap (λ (id : PartId). id.slot) same ∙ is_slot,
      ap (λ (id : PartId). id.part) same ∙ is_place,
      omega arith,
    )

-- the packet of a part below is one of those there
spot_there : (packets : List Packet) (P : ℕ → Type 0) (spot number : ℕ) → All P (map packet_spot packets) → Any (IsAt spot number) packets → P spot
spot_there [] P spot number all (i, x, low, is, h) = absurd (omega arith)
spot_there (p ∷ ps) P spot number all (zero, x, low, is, h) =
    let same : p ≡ x = cc (is) in
    subst P (ap packet_spot same ∙ h.is_spot) (All-head P (packet_spot p) (map packet_spot ps) all)
spot_there (p ∷ ps) P spot number all (suc i, x, low, is, h) =
    spot_there ps P spot number (All-tail P (packet_spot p) (map packet_spot ps) all) (i, x, omega arith, is, h)

module _ (owners owners' : List PartId) (longer : length owners ≤ length owners') (packets : List Packet) (below : All (StaysOwned owners owners') (map packet_spot packets)) where
  one_stays : (r : Request) (slot k : ℕ) (p : Progress) → All (StaysOwned owners owners') (map ticket_spot (ticket_by r p)) → IsSpottedBy packets p → IsOwnedBy owners slot k p → IsOwnedBy owners' slot k p
  one_stays r slot k (Ready place) held spotted h = owner_stays owners owners' place.packet.room.spot slot k longer (All-head (StaysOwned owners owners') place.packet.room.spot [] held) h
  one_stays r slot k (Below number spot) held spotted h = owner_stays owners owners' spot slot k longer (spot_there packets (StaysOwned owners owners') spot number below spotted) h
  one_stays r slot k (Ended ended) held spotted h = tt

  pub owned_stays : (slot k : ℕ) (parts : List Part) → All (StaysOwned owners owners') (map ticket_spot (tickets_of parts)) → All (IsSpotted packets) parts → AreOwnedFrom owners slot k parts → AreOwnedFrom owners' slot k parts
  owned_stays slot k [] held spotted h = tt
  owned_stays slot k (part ∷ parts) held spotted h =
      let both = all_both (StaysOwned owners owners') (map ticket_spot (ticket_by part.request part.progress)) (map ticket_spot (tickets_of parts)) (subst (All (StaysOwned owners owners')) (map-append ticket_spot (ticket_by part.request part.progress) (tickets_of parts)) held) in (
        one_stays part.request slot k part.progress both.0 (All-head (IsSpotted packets) part parts spotted) h.0,
        owned_stays slot (k + 1) parts both.1 (All-tail (IsSpotted packets) part parts spotted) h.1,
      )

pub here_spotted : (packets : List Packet) (part : Part) → IsHere part → IsSpotted packets part
here_spotted packets part here = by part.progress here
  where
    by : (p : Progress) → IsHereBy p → IsSpottedBy packets p
    by (Ready place) h = tt
    by (Below number spot) h = absurd h
    by (Ended ended) h = tt

-- RESERVING BELOW

pub reserves_same : (v : DeviceView) → Reserves v v
reserves_same v = record { same = refl; adapter = reserves_none v.adapter }

pub reserves_joined : (u v w : DeviceView) → Reserves u v → Reserves v w → Reserves u w
reserves_joined u v w a b = record {
  same = b.same ∙ ap (λ (x : DeviceView). record x { rooms = w.rooms; places = w.places; adapter = record x.adapter { reserved = w.adapter.reserved } }) a.same;
  adapter = record {
    reserved = b.adapter.reserved;
    after = b.adapter.after ∙ ap (λ (x : AdapterView). record x { reserved = b.adapter.reserved }) a.adapter.after;
    lasts = λ extent h. b.adapter.lasts extent (a.adapter.lasts extent h);
  };
}

-- a room that is given back reserves no less at the adapter
pub reserves_freed : (v v' : DeviceView) → v' ≡ record v { rooms = v'.rooms } → Reserves v v'
reserves_freed v v' same = subst (Reserves v) (sym same) (record { same = refl; adapter = reserves_none v.adapter })

-- HELD AND OPEN, WITH THE OWNERS AS THEY ARE NOW

-- a part that can be sent is not below
ready_here : (part : Part) → IsReadyPart part → IsHere part
ready_here part h = by part.progress h.1
  where
    by : (p : Progress) → IsReadyBy p → IsHereBy p
    by (Ready place) is = tt
    by (Below number spot) is = absurd is
    by (Ended ended) is = absurd is

module _ (rules : Rules) (owners owners' : List PartId) (longer : length owners ≤ length owners') (packets : List Packet) (below : All (StaysOwned owners owners') (map packet_spot packets)) where
  held_stays : (hs : List ClosedSlot) → All (StaysOwned owners owners') (map ticket_spot (tickets_held hs)) → All (IsHeld rules owners) hs → All (IsHeld rules owners') hs
  held_stays [] held h = All-nil (IsHeld rules owners')
  held_stays (x ∷ xs) held h =
      let both = all_both (StaysOwned owners owners') _ _ (subst (All (StaysOwned owners owners')) (map-append ticket_spot (tickets_of x.parts) (tickets_held xs)) held) in
      let is = All-head (IsHeld rules owners) x xs h in
      All-cons (IsHeld rules owners') x xs
      (record {
        cut = is.cut;
        buffered = is.buffered;
        owned = owned_stays owners owners' longer packets below x.slot 0 x.parts both.0 (All-weaker IsReadyPart (IsSpotted packets) (λ part ready. here_spotted packets part (ready_here part ready)) x.parts is.ready) is.owned;
        ready = is.ready;
      })
      (held_stays xs both.1 (All-tail (IsHeld rules owners) x xs h))

  opens_stay : (es : List (ℕ × Opened)) → All (StaysOwned owners owners') (map ticket_spot (tickets_open (map opened es))) → All (AreSpotted packets) (map opened es)
      → All (IsOpen rules owners) es → All (IsOpen rules owners') es
  opens_stay [] held spotted h = All-nil (IsOpen rules owners')
  opens_stay (e ∷ es) held spotted h =
      let both = all_both (StaysOwned owners owners') _ _ (subst (All (StaysOwned owners owners')) (map-append ticket_spot (tickets_of e.1.parts) (tickets_open (map opened es))) held) in
      let is = All-head (IsOpen rules owners) e es h in
      All-cons (IsOpen rules owners') e es
      (record {
        cut = is.cut;
        carries = is.carries;
        sent = is.sent;
        buffered = is.buffered;
        written = is.written;
        owned = owned_stays owners owners' longer packets below e.0 0 e.1.parts both.0 (All-head (AreSpotted packets) e.1 (map opened es) spotted) is.owned;
        lent = is.lent;
        restarts = is.restarts;
        few = is.few;
        unfinished = is.unfinished;
      })
      (opens_stay es both.1 (All-tail (AreSpotted packets) e.1 (map opened es) spotted) (All-tail (IsOpen rules owners) e es h))

-- OTHER ROOMS, ABOVE AND BELOW

-- other rooms below, and more is reserved at the adapter
abbrev with_below : DeviceView → List (Option Reserved) → ℕ → List Extent → DeviceView
with_below v rooms places reserved = record v { rooms = rooms; places = places; adapter = record v.adapter { reserved = reserved } }

-- other rooms above, with other owners
abbrev with_held : TableView → List ClosedSlot → List (Option Reserved) → List PartId → ℕ → ℕ → ℕ → TableView
with_held b held rooms owners places slots spots = record b { held = held; rooms = rooms; owners = owners; ended_places = places; slot_places = slots; owner_places = spots }

module _ (v : DeviceView) (below : List (Option Reserved)) (places_below : ℕ) (reserved : List Extent) (b : TableView) (held : List ClosedSlot) (rooms : List (Option Reserved)) (owners : List PartId) (places slots spots : ℕ) where
  abbrev v_now : DeviceView
  v_now = with_below v below places_below reserved

  abbrev b_now : TableView
  b_now = with_held b held rooms owners places slots spots

  in_hand_with : AllOut v_now (tickets b_now) → All (IsHeld (class_rules v.rules) owners) held → All (IsOpen (class_rules v.rules) owners) b.opens
      → length held + length b.opens ≤ places → IsApart b_now → IsInHand v b → IsInHand v_now b_now
  in_hand_with out are_held opens few apart h = record {
    port = h.port;
    sound = h.sound;
    counted = h.counted;
    coupled = record { j = h.coupled.j; same = h.coupled.same; knows = h.coupled.knows; next_above = h.coupled.next_above; keeps = h.coupled.keeps };
    rooms_out = out;
    unfinished = h.unfinished;
    settled = h.settled;
    kept = record {
      sizes = h.kept.sizes;
      in_hand = are_held;
      opens = opens;
      ended = h.kept.ended;
      places = few;
      causes = h.kept.causes;
      budget = h.kept.budget;
    };
    below = record {
      removing = h.below.removing;
      next_number = h.below.next_number;
      sent = h.below.sent;
      submitted = h.below.submitted;
      asked = h.below.asked;
      spotted = h.below.spotted;
      topmost = h.below.topmost;
      some = h.below.some;
      over = h.below.over;
    };
    orderly = record {
      adapter = out.orderly.adapter;
      read = record {
        same_size = h.orderly.read.same_size;
        same_sectors = h.orderly.read.same_sectors;
        same_depth = h.orderly.read.same_depth;
        arrays = h.orderly.read.arrays;
        pieces = h.orderly.read.pieces;
        may_act = h.orderly.read.may_act;
      };
      distinct = h.orderly.distinct;
      places = h.orderly.places;
      packets = h.orderly.packets;
      spots = apart.spots;
      vacant = apart.vacant;
      sending = h.orderly.sending;
      labels = h.orderly.labels;
      uncounted = h.orderly.uncounted;
      none_owed = h.orderly.none_owed;
      not_removed = h.orderly.not_removed;
    };
  }

module _ (v v' : DeviceView) (b b' : TableView) (h : IsInHand v b) (stays : StaysTaken v b.owners v' b'.owners) where
  still_held : All (IsHeld (class_rules v.rules) b'.owners) b.held
  still_held =
      let all = all_both (StaysOwned b.owners b'.owners) _ _ (subst (All (StaysOwned b.owners b'.owners)) (map-append ticket_spot (tickets_held b.held) (tickets_open (all_open b))) (stays.held (tickets b) h.rooms_out)) in
      held_stays (class_rules v.rules) b.owners b'.owners stays.longer v.packets stays.below b.held all.0 h.kept.in_hand

  still_open : All (IsOpen (class_rules v.rules) b'.owners) b.opens
  still_open =
      let all = all_both (StaysOwned b.owners b'.owners) _ _ (subst (All (StaysOwned b.owners b'.owners)) (map-append ticket_spot (tickets_held b.held) (tickets_open (all_open b))) (stays.held (tickets b) h.rooms_out)) in
      opens_stay (class_rules v.rules) b.owners b'.owners stays.longer v.packets stays.below b.opens all.1 h.below.spotted h.kept.opens

  -- the view below, written out
  hand_now : (b'' : TableView) → b' ≡ b'' → IsInHand (with_below v v'.rooms v'.places v'.adapter.reserved) b'' → IsInHand v' b'
  hand_now b'' same k = subst (λ x. IsInHand x b') (sym stays.reserves.same) (subst (IsInHand (with_below v v'.rooms v'.places v'.adapter.reserved)) (sym same) k)

  abbrev refused_books : TableView
  refused_books = with_held b b.held b.rooms b'.owners b'.ended_places b'.slot_places b'.owner_places

  -- no room is made
  pub in_hand_refused : b' ≡ record b { owners = b'.owners; ended_places = b'.ended_places; slot_places = b'.slot_places; owner_places = b'.owner_places } → b.ended_places ≤ b'.ended_places → AllOut v' (tickets b) → IsInHand v' b'
  in_hand_refused same places out =
      hand_now refused_books same
      (in_hand_with v v'.rooms v'.places v'.adapter.reserved b b.held b.rooms b'.owners b'.ended_places b'.slot_places b'.owner_places
      (subst (λ x. AllOut x (tickets b)) stays.reserves.same out) still_held still_open
      (let p = h.kept.places in omega arith)
      (record { spots = h.orderly.spots; vacant = h.orderly.vacant }) h)

  abbrev made_books : TableView
  made_books = with_held b b'.held b'.rooms b'.owners b'.ended_places b'.slot_places b'.owner_places

  -- a room is made
  pub in_hand_made : (new : ClosedSlot) → b' ≡ record b { owners = b'.owners; ended_places = b'.ended_places; slot_places = b'.slot_places; owner_places = b'.owner_places; held = b'.held; rooms = b'.rooms }
      → IsPermutation b'.held (new ∷ b.held) → length b.held + length b.opens + 1 ≤ b'.ended_places → IsHeld (class_rules v.rules) b'.owners new → IsApart b'
      → AllOut v' (tickets_of new.parts ++ tickets b) → IsInHand v' b'
  in_hand_made new same more places is_held apart out =
      let all_out : AllOut v' (tickets_held b'.held ++ tickets_open (all_open b)) =
      out_any_order v' _ _ (IsPermutation-append_left (tickets_open (all_open b)) _ _ (IsPermutation-sym _ _ (held_same _ _ more)))
      (subst (AllOut v') (sym (append_assoc (tickets_of new.parts) (tickets_held b.held) (tickets_open (all_open b)))) out) in
      hand_now made_books same
      (in_hand_with v v'.rooms v'.places v'.adapter.reserved b b'.held b'.rooms b'.owners b'.ended_places b'.slot_places b'.owner_places
      (subst (λ x. AllOut x (tickets_held b'.held ++ tickets_open (all_open b))) stays.reserves.same all_out)
      (All-permutation (IsHeld (class_rules v.rules) b'.owners) _ _ (IsPermutation-sym _ _ more) (All-cons (IsHeld (class_rules v.rules) b'.owners) new b.held is_held still_held))
      still_open
      (let p = length_permutation _ _ more in omega arith)
      (subst IsApart same apart) h)

-- a room is given back
pub in_hand_freed : (v v' : DeviceView) (b b' : TableView) (slot : ℕ) (places : Places) → v' ≡ record v { rooms = v'.rooms } → RemovesSlot b slot places b' → IsApart b'
    → AllOut v' (tickets b') → IsInHand v b → IsInHand v' b'
in_hand_freed v v' b b' slot places same removes apart out h =
    let after : b' ≡ with_held b b'.held b'.rooms b.owners b.ended_places b.slot_places b.owner_places = removes.after in
    subst (λ x. IsInHand x b') (sym same)
    (subst (IsInHand (with_below v v'.rooms v.places v.adapter.reserved)) (sym after)
    (in_hand_with v v'.rooms v.places v.adapter.reserved b b'.held b'.rooms b.owners b.ended_places b.slot_places b.owner_places
    (subst (λ x. AllOut x (tickets (with_held b b'.held b'.rooms b.owners b.ended_places b.slot_places b.owner_places))) same (subst (λ x. AllOut v' (tickets x)) after out))
    (All-tail (IsHeld (class_rules v.rules) b.owners) removes.held b'.held (All-permutation (IsHeld (class_rules v.rules) b.owners) _ _ removes.fewer h.kept.in_hand))
    h.kept.opens
    (let p = length_permutation _ _ removes.fewer in let q = h.kept.places in omega arith)
    (subst IsApart after apart) h))

-- the rooms of a slot that is given up come first
pub freed_first : (v : DeviceView) (b b' : TableView) (slot : ℕ) (places : Places) → RemovesSlot b slot places b' → AllOut v (tickets b) → AllOut v (tickets_of places.parts.items ++ tickets b')
freed_first v b b' slot places removes out =
    let same_opens : all_open b' ≡ all_open b = ap all_open removes.after in
    let moved : AllOut v ((tickets_of removes.held.parts ++ tickets_held b'.held) ++ tickets_open (all_open b)) =
    out_any_order v _ _ (IsPermutation-append_left (tickets_open (all_open b)) _ _ (held_same _ _ removes.fewer)) out in
    subst (λ ps. AllOut v (tickets_of ps ++ tickets b')) (sym removes.parts)
    (subst (λ os. AllOut v (tickets_of removes.held.parts ++ (tickets_held b'.held ++ tickets_open os))) (sym same_opens)
    (subst (AllOut v) (append_assoc (tickets_of removes.held.parts) (tickets_held b'.held) (tickets_open (all_open b))) moved))

-- none of its parts is below
pub freed_here : (rules : Rules) (b b' : TableView) (slot : ℕ) (places : Places) → RemovesSlot b slot places b' → AreKept rules b → All IsHere places.parts.items
freed_here rules b b' slot places removes k =
    subst (All IsHere) (sym removes.parts)
    (All-weaker IsReadyPart IsHere ready_here removes.held.parts (All-head (IsHeld rules b.owners) removes.held b'.held (All-permutation (IsHeld rules b.owners) _ _ removes.fewer k.in_hand)).ready)

-- what is shown of it
pub frees_above : (v v' : DeviceView) (b b' : TableView) (slot : ℕ) (places : Places) → v' ≡ record v { rooms = v'.rooms } → RemovesSlot b slot places b'
    → Frees (view_of v b) slot (view_of v' b')
frees_above v v' b b' slot places same removes = record {
  reserved = reserved_for removes.held;
  room = removes.room;
  same = cc (ap (λ (x : DeviceView). view_of x b') same, ap (λ (x : TableView). view_of (record v { rooms = v'.rooms }) x) removes.after);
}

pub ended_open : (rules : Rules) (b : TableView) → AreKept rules b → length b.ended ≤ length b.opens
ended_open rules b k = let h = ended_few b.opens in let e = length_permutation _ _ k.ended in omega arith

pub on_err : {T E P : Type 0} (r : Result T E) → P → OnErr r P
on_err (Ok x) p = tt
on_err (Err x) p = p
