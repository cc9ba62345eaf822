-- What the filter keeps, in the terms of its layer.
use Rattle.hold_filter.proofs.Common.{◌≡◌, ◌<◌, ◌≤◌, ◌⊎◌, inl, inr, ℕ, ◌+◌, Bool, true, false, List, [], ◌∷◌, ◌++◌, IsDistinct, nat_tests, map-append, count_by-le-length, sum_by-cons, sum_by-append, All-append, All-map, All-weaker, All-head, All-tail, Contains-get_or, IsPermutation-append_left, OpenRequest, is_started, is_lower, IsAllSent, IsFull, started_count, HasPlaces, request_number, with_window, IsAbove, DeviceView, Packet, packet_number, packet_spot, IsOffRooms, IsOrderly, WaitsForTag, Held, TableView, packet_in, here, open_here, are_late, requests_here, state_of, view_of, packets_of, packet_below, packet_here, without, FilterKept, IsCancelled, IsAsked, spot_in}
use Rattle.std.proofs.Common.{Some, refl, sym, subst, ap, ◌∙◌, arith, map, length, cond, get_or, eqb}
use Rattle.std.specs.Prelude.{All, IsTrue, IsFalse, IsPermutation, count_by, ◌||◌}
use Rattle.hold_filter.proofs.Common.{AllMayPass-above, Run-framed, State, frame_of, framed}
use Rattle.srb.specs.declared.DeviceLabel.TheVariants.{Act}
use Rattle.adapter.specs.View.{TagInUse}
use Rattle.machine.specs.Step.{Run, as_label}
use Rattle.device.specs.View.{MayAct}
use Rattle.hold_filter.proofs.Here.{not_started, has_places, true_false}
use Rattle.hold_filter.proofs.Rooms.{IsOn, IsOff, without_on, still_none, all_apart}
use Rattle.hold_filter.proofs.Spots.{off_all}
use Rattle.hold_filter.proofs.Lists.{any_of}

pub maps_are : {X Y Z : Type 0} (f : X → Y) (g : Y → Z) (h : X → Z) → ((x : X) → g (f x) ≡ h x) → (xs : List X)
    → map g (map f xs) ≡ map h xs
maps_are f g h same [] = refl
maps_are f g h same (x ∷ xs) = rw (same x, maps_are f g h same xs) refl

abbrev one_if : ℕ → OpenRequest → ℕ
one_if n o = cond (is_lower n o) 1 0

-- all requests with lower numbers are counted
lower_all : (n : ℕ) (rs : List OpenRequest) → All (λ (o : OpenRequest). o.number < n) rs
    → count_by (is_lower n) rs ≡ length rs
lower_all n [] h = refl
lower_all n (o ∷ rs) h =
    let low : o.number < n = All-head (λ (x : OpenRequest). x.number < n) o rs h in
    let one : one_if n o ≡ 1 = grind (arith, nat_tests) in
    let rest : count_by (is_lower n) rs ≡ length rs =
    lower_all n rs (All-tail (λ (x : OpenRequest). x.number < n) o rs h) in
    sum_by-cons (one_if n) o rs ∙ rw (one, rest) (omega arith)

-- none of these is started
none_started : {X : Type 0} (f : X → OpenRequest) → ((x : X) → IsFalse (is_started (f x))) → (xs : List X)
    → count_by is_started (map f xs) ≡ 0
none_started f not [] = refl
none_started f not (x ∷ xs) = sum_by-cons (λ o. cond (is_started o) 1 0) (f x) (map f xs)
    ∙ rw (not x, none_started f not xs) (omega arith)

module _ (stack_size : ℕ) (v : DeviceView) (b : TableView) (k : FilterKept stack_size v b) where
  pub some_bytes : 0 < v.rules.sector_size
  some_bytes =
      let same : v.rules.sector_size ≡ v.adapter.sector_size = k.ordered.read.same_size in
      elim k.ordered.adapter.sector_size [ inl e ↦ omega arith | inr e ↦ omega arith ]

  late : Bool
  late = are_late b

  abbrev open_as : Held → OpenRequest
  open_as h = open_here v.rules (are_late b) h

  places_here : All HasPlaces (requests_here v.rules b)
  places_here = All-map HasPlaces open_as (here b)
      (All-weaker (IsAsked v.rules) (λ h. HasPlaces (open_as h))
      (λ h asked. has_places v.rules (are_late b) h asked)
      (here b) k.asked)

  numbers_are : IsPermutation (map packet_number (packets_of v b)) (map request_number (state_of v b).requests)
  numbers_are =
      let below : map packet_number (map packet_below v.packets) ≡ map packet_number v.packets =
      maps_are packet_below packet_number packet_number (λ p. refl) v.packets in
      let above : map packet_number (map packet_here (here b)) ≡ map request_number (map open_as (here b)) =
      maps_are packet_here packet_number (λ (h : Held). h.irp.value.number) (λ h. refl) (here b)
      ∙ sym (maps_are open_as request_number (λ (h : Held). h.irp.value.number) (λ h. refl) (here b)) in
      let left : map packet_number (packets_of v b) ≡ map packet_number v.packets ++ map request_number
      (map open_as (here b)) =
      map-append packet_number (map packet_below v.packets) (map packet_here (here b))
      ∙ ap (λ ns. ns ++ map packet_number (map packet_here (here b))) below
      ∙ ap (λ ns. map packet_number v.packets ++ ns) above in
      let right : map request_number (v.state.requests ++ map open_as (here b)) ≡ map request_number
      v.state.requests ++ map request_number (map open_as (here b)) =
      map-append request_number v.state.requests (map open_as (here b)) in
      subst (λ ns. IsPermutation ns (map request_number (state_of v b).requests)) (sym left)
      (subst (λ ns. IsPermutation (map packet_number v.packets ++ map request_number (map open_as (here b))) ns)
      (sym right) (IsPermutation-append_left (map request_number (map open_as (here b))) _ _ k.ordered.packets))

  -- each packet has a spot of its own, which is not reserved
  vacant_below : All (λ (p : Packet). All (IsOff (packet_spot p)) (here b)) v.packets
  vacant_below = All-weaker (IsOffRooms v.rooms) (λ (p : Packet). All (IsOff (packet_spot p)) (here b))
      (λ p none. off_all v.rooms (packet_spot p) (here b) k.rooms.reserved none) v.packets k.ordered.vacant

  spots_are : map packet_spot (packets_of v b) ≡ map packet_spot v.packets ++ map spot_in (here b)
  spots_are =
      map-append packet_spot (map packet_below v.packets) (map packet_here (here b))
      ∙ ap (λ ns. ns ++ map packet_spot (map packet_here (here b)))
      (maps_are packet_below packet_spot packet_spot (λ p. refl) v.packets)
      ∙ ap (λ ns. map packet_spot v.packets ++ ns) (maps_are packet_here packet_spot spot_in (λ h. refl) (here b))

  spots_apart : IsDistinct eqb (map packet_spot (packets_of v b))
  spots_apart = subst (IsDistinct eqb) (sym spots_are)
      (all_apart v.packets (here b) k.ordered.spots k.rooms.apart vacant_below)

  all_vacant : All (IsOffRooms (without v.rooms (here b))) (packets_of v b)
  all_vacant =
      All-append (IsOffRooms (without v.rooms (here b))) (map packet_below v.packets) (map packet_here (here b))
      (All-map (IsOffRooms (without v.rooms (here b))) packet_below v.packets
      (All-weaker (IsOffRooms v.rooms) (λ (p : Packet). IsOffRooms (without v.rooms (here b)) (packet_below p))
      (λ p none. still_none v.rooms (here b) (packet_spot p) none) v.packets k.ordered.vacant))
      (All-map (IsOffRooms (without v.rooms (here b))) packet_here (here b)
      (λ i d low. without_on v.rooms (here b) (spot_in (get_or (here b) i d))
      (any_of (IsOn (spot_in (get_or (here b) i d))) (here b) (get_or (here b) i d)
      (Contains-get_or (here b) i d low) refl)))

  -- both those below and those here
  both : (P : OpenRequest → Type 0) → All P v.state.requests → All (λ h. P (open_as h)) (here b)
      → All P (state_of v b).requests
  both P below above = All-append P v.state.requests (map open_as (here b)) below (All-map P open_as (here b) above)

  lates : All (λ (x : OpenRequest). x.late ≡ are_late b) (requests_here v.rules b)
  lates = All-map (λ (x : OpenRequest). x.late ≡ are_late b) open_as (here b) (λ i d low. refl)

  sent_all : length v.state.pieces < v.rules.depth → IsFalse v.state.removing
      → All (IsAllSent (with_window (Some b.window) v.rules)) (state_of v b).requests
  sent_all free staying =
      both (IsAllSent (with_window (Some b.window) v.rules)) (k.ordered.sending.sent free staying)
      (λ i d low timely started. true_false _ started (not_started v.rules (are_late b) (get_or (here b) i d)))

  -- a request below that is not cancelled is started
  below_started : length v.state.pieces < v.rules.depth → IsFalse v.state.removing
      → All (WaitsForTag (with_window (Some b.window) v.rules) (state_of v b)) v.state.requests
  below_started free staying i d low timely not_yet =
      elim (k.ordered.sending.released free staying i d low timely not_yet) [
        | inl late ↦ true_false _ late (k.holds.timely i d low)
        | inr full ↦ absurd (subst
            (λ w. IsFull w (count_by (is_lower (get_or v.state.requests i d).number) v.state.requests))
            k.below.no_window
            full)
      ]

  -- behind a full window as many as it has are lower
  many_lower : (o : OpenRequest) → IsAbove v.state.requests o → b.window ≤ length v.state.requests
      → IsFull (Some b.window) (count_by (is_lower o.number) (state_of v b).requests)
  many_lower o above full =
      let split : count_by (is_lower o.number) (state_of v b).requests ≡ count_by
      (is_lower o.number) v.state.requests +
      count_by (is_lower o.number) (map open_as (here b)) = sum_by-append (one_if o.number) v.state.requests
      (map open_as (here b)) in
      let all : count_by (is_lower o.number) v.state.requests ≡ length v.state.requests =
      lower_all o.number v.state.requests above in
      omega arith

  -- what may act below may act here
  act_shown : (u : TagInUse) → MayAct v.rules v.state u
      → MayAct (with_window (Some b.window) v.rules) (state_of v b) u
  act_shown u may apart fresh =
      let below : (acted : State) × Run v.rules v.state (as_label (Act u.piece u.srb.data) ∷ []) acted =
      may apart fresh in (
        framed (frame_of v.rules b) below.0,
        Run-framed (frame_of v.rules b) (Some b.window) v.rules v.state (Act u.piece u.srb.data ∷ []) below.0
            (AllMayPass-above b.window (frame_of v.rules b) v.state k.holds) below.1,
      )

  module _ (released : IsFalse b.paused → IsFalse b.removing → (b.held ≡ []) ⊎ (b.window ≤ length v.state.requests))
    where
      held_waits : length v.state.pieces < v.rules.depth → IsFalse v.state.removing
          → All (WaitsForTag (with_window (Some b.window) v.rules) (state_of v b)) (requests_here v.rules b)
      held_waits free staying i d low timely not_yet = by_flags b.paused b.removing refl refl
        where
          o : OpenRequest
          o = get_or (requests_here v.rules b) i d

          full_or_none : (b.held ≡ []) ⊎ (b.window ≤ length v.state.requests)
              → IsTrue o.late ⊎ IsFull (Some b.window) (count_by (is_lower o.number) (state_of v b).requests)
          full_or_none (inr full) = inr (many_lower o (k.holds.above i d low) full)
          full_or_none (inl none) =
              let cancelled : All IsCancelled (here b) =
              subst (λ es. All IsCancelled (map packet_in es ++ map packet_in b.ended)) (sym none) k.cancelled in
              true_false _ (All-map (λ (x : OpenRequest). IsTrue x.cancelled) open_as (here b) cancelled i d low)
              timely

          by_flags : (paused removing : Bool) → b.paused ≡ paused → b.removing ≡ removing
              → IsTrue o.late ⊎ IsFull (Some b.window) (count_by (is_lower o.number) (state_of v b).requests)
          by_flags true removing is gone = inl (lates i d low ∙ ap (λ p. p || b.removing) is)
          by_flags false true is gone = true_false _ gone (k.removing ∙ staying)
          by_flags false false is gone = full_or_none (released is gone)

      -- what the filter shows is in order
      pub orderly_of : IsOrderly (view_of v b)
      orderly_of = record {
        adapter = k.ordered.adapter;
        read = record {
          same_size = k.ordered.read.same_size;
          same_sectors = k.ordered.read.same_sectors;
          same_depth = k.ordered.read.same_depth;
          arrays = k.ordered.read.arrays;
          pieces = k.ordered.read.pieces;
          may_act = All-weaker (MayAct v.rules v.state)
              (MayAct (with_window (Some b.window) v.rules) (state_of v b)) act_shown v.adapter.tags
              k.ordered.read.may_act;
        };
        distinct = k.distinct;
        places = All-append HasPlaces v.state.requests (requests_here v.rules b) k.ordered.places places_here;
        packets = numbers_are;
        spots = spots_apart;
        vacant = all_vacant;
        sending = record {
          sent = sent_all;
          released = λ free staying. All-append (WaitsForTag (with_window (Some b.window) v.rules) (state_of v b))
              v.state.requests (requests_here v.rules b) (below_started free staying) (held_waits free staying);
          within_window =
              let split : started_count (state_of v b) ≡ started_count v.state + count_by is_started
              (map open_as (here b)) = sum_by-append (λ o. cond (is_started o) 1 0) v.state.requests
              (map open_as (here b)) in
              let none : count_by is_started (map open_as (here b)) ≡ 0 =
              none_started open_as (λ h. not_started v.rules (are_late b) h) (here b) in
              let few : started_count v.state ≤ length v.state.requests =
              count_by-le-length is_started v.state.requests in
              let inside : length v.state.requests ≤ b.window = k.holds.within in
              omega arith;
        };
        labels = k.ordered.labels;
        uncounted = k.ordered.uncounted;
        none_owed = k.ordered.none_owed;
        not_removed = k.ordered.not_removed;
      }
