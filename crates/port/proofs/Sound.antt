-- The port is in order, with the spots that are reserved for its rooms.
use Rattle.std.specs.Global.{Box}
use Rattle.std.proofs.Common.{◌≡◌, ◌≢◌, ◌⊎◌, inl, inr, ◌<◌, ◌≤◌, ℕ, arith, true, List, [], ◌∷◌, Option, Some, None, refl, sym, ◌∙◌, ap, subst, map, slice_index_or}
use Rattle.std.specs.Prelude.{All, IsPermutation, IsFalse}
use Rattle.std.proofs.lemmas.List.Sorted.{IsPermutation-sym}
use Rattle.std.proofs.lemmas.List.Elements.{All-head, All-tail}
use Rattle.linked.specs.Queue.{IsVacant}
use Rattle.adapter.specs.View.{AdapterView, IsInOrder, ReservesMore, ReservesNear as AdapterReservesNear, IsReserved}
use Rattle.sector.specs.Extents.{CoversMoreNear}
use Rattle.machine.specs.Rules.{home}
use Rattle.irp.specs.declared.Irp.{Irp}
use Rattle.machine.specs.declared.Request.{Request}
use Rattle.srb.specs.declared.Kind.TheVariants.{Write}
use Rattle.machine.specs.Holding.{Cancels}
use Rattle.device.specs.View.{DeviceView, Reserved, room_at, whole_for, IsBounded, Carries}
use Rattle.device.specs.Served.{HasOtherSpot as SpotApart, SameRooms, SetsRoom, ReservesSpot, ReservesNone, ReservesNear, Frees, CancelsIfOpen, CancelsAt, IsBeside, NoneToCancel}
use Rattle.device.proofs.Reserving.{home_of_whole, packets_apart}
use Rattle.port.specs.declared.queues.Waiting.{Waiting}
use Rattle.port.specs.declared.queues.Ended.{Ended}
use Rattle.port.specs.inside.TableView.{TableView, held_at, in_all, spot_in}
use Rattle.port.specs.inside.TableCalls.{HasOtherSpot, IsEndedTaken, AddsNone, AddsPlace, RemovesPlace, Queued, TakesDone, IsEmpty}
use Rattle.port.specs.Shown.{rules_of, view_of, packets_of, reserved_in, reserved_of, of_waiting, of_tag, of_done}
use Rattle.port.specs.inside.Invariant.{PortKept, IsInHand, IsSound, IsTaken}
use Rattle.port.specs.inside.Order.{any_order_lem}
use Rattle.port.proofs.Places.{Slots, at_slot, sets_room, same_shown, one_more, one_less, all_right, all_left, from_map, away_of}
use Rattle.port.proofs.Rooms.{hand_made, hand_freed}
use Rattle.port.proofs.Handing.{hand_left}
use Rattle.port.proofs.Submitting.{MayQueue}
use Rattle.port.proofs.Fresh.{opens_in_hand}
use Rattle.port.specs.Opening.{IsFresh, sizes_of}
use Rattle.port.specs.declared.queues.Sizes.{Sizes}

-- a spot that is vacant in the queue
pub vacant_in : (spot : ℕ) (entries : List (ℕ × Waiting)) → All (HasOtherSpot spot) (map held_at entries) → IsVacant spot entries
vacant_in spot [] h = tt
vacant_in spot (e ∷ rest) h = (All-head (HasOtherSpot spot) (held_at e) (map held_at rest) h, vacant_in spot rest (All-tail (HasOtherSpot spot) (held_at e) (map held_at rest) h))

-- THE SPOTS

pub ended_taken : (b : TableView) (v : AdapterView) (rooms : List Request) → PortKept b v rooms → All (IsEndedTaken b.rooms) b.done
ended_taken b v rooms k =
    from_map (IsTaken b.rooms) (of_done spot_in) b.done (all_right (IsTaken b.rooms) (map (of_tag spot_in b.started) v.tags) _ (all_right (IsTaken b.rooms) (map (of_waiting spot_in) b.waiting) _ k.taken))

pub waiting_away : (b : TableView) (v : AdapterView) (rooms : List Request) (spot : ℕ) (r : Request) → slice_index_or b.rooms spot None ≡ Some (Some r) → PortKept b v rooms → All (HasOtherSpot spot) b.waiting
waiting_away b v rooms spot r at k =
    from_map (λ n. n ≢ spot) (of_waiting spot_in) b.waiting (away_of b.rooms spot r at (map (of_waiting spot_in) b.waiting) (all_left (IsTaken b.rooms) (map (of_waiting spot_in) b.waiting) _ k.taken))

-- what is shown as reserved is reserved
slot_of : (x : Option (Option Request)) (res : Reserved) → reserved_in x ≡ Some res → x ≡ Some (Some res.request)
slot_of None res e = absurd (cc (e))
slot_of (Some None) res e = absurd (cc (e))
slot_of (Some (Some r)) res e = let same : whole_for r ≡ res = cc (e) in ap (λ (q : Request). Some (Some q)) (ap (λ (y : Reserved). y.request) same)

pub slot_at : (b : TableView) (v : AdapterView) (old : DeviceView) (shown : view_of b v ≡ old) (spot : ℕ) (res : Reserved) → room_at old.rooms spot ≡ Some res → slice_index_or b.rooms spot None ≡ Some (Some res.request)
slot_at b v old shown spot res is = slot_of (slice_index_or b.rooms spot None) res (sym (at_slot b.rooms spot) ∙ ap (λ (x : DeviceView). room_at x.rooms spot) shown ∙ is)

-- IN ORDER AGAIN

pub sound_on : (b b' : TableView) (v v' : AdapterView) → SameRooms (view_of b v).rooms (view_of b' v').rooms → IsInHand b' v' (reserved_of b.rooms) → IsSound b' v'
sound_on b b' v v' same h =
    subst (IsInHand b' v') (sym (same_shown b.rooms b'.rooms (λ k. sym (at_slot b'.rooms k) ∙ same k ∙ at_slot b.rooms k))) h

same_view : (b b' : TableView) (v v' : AdapterView) → view_of b' v' ≡ view_of b v → SameRooms (view_of b v).rooms (view_of b' v').rooms
same_view b b' v v' same = λ k. ap (λ (x : DeviceView). room_at x.rooms k) same

pub same_cancelled : (b b' : TableView) (v v' : AdapterView) (number : ℕ) → CancelsIfOpen (view_of b v) number (view_of b' v') → SameRooms (view_of b v).rooms (view_of b' v').rooms
same_cancelled b b' v v' number h = by h.one_of
  where
    by : (Cancels (view_of b v).state number (view_of b' v').state × IsBeside (view_of b v) (view_of b' v')) ⊎ (NoneToCancel (view_of b v).state number × (view_of b' v' ≡ view_of b v)) → SameRooms (view_of b v).rooms (view_of b' v').rooms
    by (inl (c, beside)) = beside.same_rooms
    by (inr (none, same)) = same_view b b' v v' same

pub same_cancelled_at : (b b' : TableView) (v v' : AdapterView) (spot number : ℕ) → CancelsAt (view_of b v) spot number (view_of b' v') → SameRooms (view_of b v).rooms (view_of b' v').rooms
same_cancelled_at b b' v v' spot number h = by h.either
  where
    by : (Cancels (view_of b v).state number (view_of b' v').state × IsBeside (view_of b v) (view_of b' v')) ⊎ (view_of b' v' ≡ view_of b v) → SameRooms (view_of b v).rooms (view_of b' v').rooms
    by (inl (c, beside)) = beside.same_rooms
    by (inr same) = same_view b b' v v' same

-- A SPOT CHANGES

pub sound_made : (b c d : TableView) (v v' : AdapterView) (r : Request) (spot : ℕ) → c ≡ b → AddsPlace c spot r d → ReservesMore v v' → IsInOrder v'
    → IsBounded (view_of b v).rules r → (r.kind ≡ Write → IsReserved v' r.extent) → IsSound b v → IsSound d v'
sound_made b c d v v' r spot e f h order bounded reserved k =
    let R : List Request = reserved_of b.rooms in
    let more : IsPermutation (reserved_of d.rooms) (r ∷ R) = subst (λ (x : TableView). IsPermutation (reserved_of d.rooms) (r ∷ reserved_of x.rooms)) e (one_more spot c.rooms d.rooms None r tt f.slot) in
    any_order_lem d v' (r ∷ R) (reserved_of d.rooms) (IsPermutation-sym _ _ more) (hand_made b c d v v' r spot R e f h order bounded reserved k)

-- the sectors and the tags are as they were
pub reserves_none_shown : (b c : TableView) (v v' : AdapterView) → AddsNone b c → ReservesMore v v' → ReservesNone (view_of b v) (view_of c v')
reserves_none_shown b c v v' e h =
    subst (λ (x : TableView). ReservesNone (view_of b v) (view_of x v')) (sym e)
    (subst (λ (x : AdapterView). ReservesNone (view_of b v) (view_of (record b { capacity = c.capacity }) x)) (sym h.after) (record {
      reserves = record { same = refl; adapter = subst (ReservesMore v) h.after h };
      room = λ k. refl;
    }))

pub reserves_spot_shown : (b c d : TableView) (v v' : AdapterView) (r : Request) (spot : ℕ) → c ≡ b → AddsPlace c spot r d → ReservesMore v v' → IsSound d v' → ReservesSpot (view_of b v) spot r (view_of d v')
reserves_spot_shown b c d v v' r spot e f h k =
    subst (λ (y : TableView). ReservesSpot (view_of y v) spot r (view_of d v')) e
    (subst (λ (x : AdapterView). ReservesSpot (view_of c v) spot r (view_of d x)) (sym h.after) (record {
      reserves = record {
        same = ap (λ (x : TableView). record (view_of x (record v { reserved = h.reserved })) { rooms = map reserved_in d.rooms; places = in_all d.capacity }) f.after;
        adapter = subst (ReservesMore v) h.after h;
      };
      apart = apart;
      room = set;
    }))
  where
    set : SetsRoom (map reserved_in c.rooms) spot None (Some (whole_for r)) (map reserved_in d.rooms)
    set = sets_room c.rooms spot None (Some (Some r)) d.rooms f.slot

    same_packets : packets_of d v' ≡ packets_of c v
    same_packets = ap (λ (x : TableView). packets_of x v') f.after ∙ ap (λ (x : AdapterView). packets_of c x) h.after

    apart : All (SpotApart spot) (packets_of c v)
    apart = subst (All (SpotApart spot)) same_packets (packets_apart (map reserved_in d.rooms) spot (whole_for r) (packets_of d v') set.is k.orderly.vacant)

pub sound_freed : (b b' : TableView) (v : AdapterView) (spot : ℕ) → RemovesPlace b spot b' → IsSound b v → IsSound b' v
sound_freed b b' v spot e k =
    hand_freed b b' v spot (reserved_of b'.rooms) e (any_order_lem b v _ _ (one_less spot b.rooms b'.rooms None e.request tt e.slot) k)

pub frees_shown : (b b' : TableView) (v : AdapterView) (spot : ℕ) → RemovesPlace b spot b' → Frees (view_of b v) spot (view_of b' v)
frees_shown b b' v spot e = record {
  reserved = whole_for e.request;
  room = sets_room b.rooms spot (Some (Some e.request)) None b'.rooms e.slot;
  same = ap (λ (x : TableView). record (view_of x v) { rooms = map reserved_in b'.rooms }) e.after;
}

-- the spot of a packet that is taken in is its own
pub hand_queued : (b b' : TableView) (v : AdapterView) (irp : Box Irp) (r : Request) (spot : ℕ) → Queued b irp r spot b' → IsSound b v → IsInHand b v (r ∷ reserved_of b'.rooms)
hand_queued b b' v irp r spot q k = any_order_lem b v _ _ (one_less spot b.rooms b'.rooms (Some None) r tt q.slot) k

pub sound_left : (b b' : TableView) (v : AdapterView) (d : Ended) → TakesDone b d b' → IsSound b v → IsSound b' v
sound_left b b' v d h k =
    any_order_lem b' v _ _ (IsPermutation-sym _ _ (one_more d.spot b.rooms b'.rooms (Some None) d.request tt h.slot)) (hand_left b b' v d h (reserved_of b.rooms) k)

-- the request's sectors on the disk are those of its extent
near_asked : (b b' : TableView) (v v' : AdapterView) (r : Request) → IsBounded (rules_of b.sizes) r → AdapterReservesNear v r.extent v' → ReservesNear (view_of b v) r (view_of b' v')
near_asked b b' v v' r bounded near =
    let known = bounded.known in
    let first : home (rules_of b.sizes) (Some r.volume) r.extent.first ≡ r.extent.first = home_of_whole (rules_of b.sizes) r.volume r.extent.first b.sizes.sectors refl (omega arith) in
    subst (λ (n : ℕ). CoversMoreNear v.run (record { first = n; count = r.extent.count }) v.reserved v'.reserved) (sym first) near

pub near_shown : (b b' : TableView) (v v' : AdapterView) (old : DeviceView) (r : Request) → view_of b v ≡ old → IsBounded old.rules r → AdapterReservesNear v r.extent v'
    → ReservesNear old r (view_of b' v')
near_shown b b' v v' old r shown bounded near =
    subst (λ (x : DeviceView). IsBounded x.rules r → ReservesNear x r (view_of b' v')) shown (λ (h : IsBounded (rules_of b.sizes) r). near_asked b b' v v' r h near) bounded

-- A PACKET IS TAKEN IN

pub may_queue : (b : TableView) (v : AdapterView) (old : DeviceView) (shown : view_of b v ≡ old) (irp : Box Irp) (r : Request) → IsFalse old.state.removing → old.state.next_request ≤ irp.value.number
    → old.submitted < old.most → IsFalse irp.value.cancelled → Carries true old.rules r irp.value.payload → MayQueue b irp r
may_queue b v old shown irp r stays number few timely carries = record {
  stays = subst (λ (x : DeviceView). IsFalse x.state.removing) (sym shown) stays;
  number = subst (λ (x : DeviceView). x.state.next_request ≤ irp.value.number) (sym shown) number;
  few = subst (λ (x : DeviceView). x.submitted < x.most) (sym shown) few;
  not_cancelled = timely;
  carries = subst (λ (x : DeviceView). Carries true x.rules r irp.value.payload) (sym shown) carries;
}

pub sound_opens : (b : TableView) (v : AdapterView) (sizes : Sizes) → sizes ≡ sizes_of v → IsEmpty sizes b → IsFresh v → IsInOrder v → IsSound b v
sound_opens b v sizes e h f order = subst (λ (slots : Slots). IsInHand b v (reserved_of slots)) (sym h.rooms) (opens_in_hand b v sizes e h f order)
