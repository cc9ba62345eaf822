-- A pause, its end, and a removal.
use Rattle.hold_filter.proofs.Common.{◌≡◌, ◌<◌, ◌≤◌, ◌⊎◌, inl, inr, ℕ, zero, suc, ◌+◌, Bool, true, false, List, [], ◌∷◌, ◌++◌, Option, Some, refl, sym, subst, ap, ◌∙◌, arith, map, length, replicate, get_or, list_any, map-append, sum_by-append, All-head, All-tail, All-map, All-append, All-weaker, IsPermutation-refl, IsPermutation-sym, IsPermutation-map, IsPermutation-append_left, All-permutation, length_permutation, IsDistinct-IsPermutation, AdapterView, place_count, as_client, Untouched, OpenRequest, State, Drains, Pauses, Resumes, held_back, beyond, as_timely, WaitsIfCancelled, is_out, has_out, AreDistinct, IsGiven, request_number, framed, with_window, HasLowerNumber, IsAbove, IsTimely, IsLate, Holds, DeviceView, Packet, Reserved, IsOrderly, DrainsAll, PausesAll, ResumesAll, SameRooms, flips, late, lower, kept, few_lower, none_lower, held_back-framed, Pauses-framed, Resumes-framed, same_below, Held, TableView, packet_in, here, packet_below, packet_here, without, open_here, are_late, requests_here, frame_of, state_of, view_of, Releases, IsFrom, IsPassed, IsCancelled, AsksAdmitted, FilterKept, IsInHand, request_in}
use Rattle.std.specs.Prelude.{All, IsPermutation, IsTrue, IsFalse, ◌||◌, nat_le, if◌then◌else◌, eqb}
use Rattle.hold_filter.proofs.Lists.{All-from_map, All-first, All-second}
use Rattle.hold_filter.proofs.Orderly.{maps_are}
use Rattle.hold_filter.proofs.Moving.{moved_to, moved_is, in_hand}
use Rattle.hold_filter.proofs.Rooms.{same_without, rooms_refl}
use Rattle.hold_filter.proofs.Spots.{kept_same}

-- what was never sent is not out
none_out : (n : ℕ) → list_any is_out (replicate n Untouched) ≡ true → ⊥
none_out zero h = cc (h)
none_out (suc n) h = none_out n h

-- HELD BACK

late_already : (window : ℕ) (rs xs : List OpenRequest) → All IsLate xs → map (beyond window rs) xs ≡ xs
late_already window rs [] h = refl
late_already window rs (x ∷ xs) h =
    let e : x.late ≡ true = All-head IsLate x xs h in
    let f : (x.late || nat_le window (lower rs x)) ≡ x.late = rw e refl in
    cc (ap (λ l. record x { late = l }) f, late_already window rs xs (All-tail IsLate x xs h))

-- with those below ahead of the window, and the others late already, nothing is made late
held_back-late : (window : ℕ) (below held : List OpenRequest) → All IsTimely below → All (IsAbove below) held
    → length below ≤ window → All IsLate held → held_back (Some window) (below ++ held) ≡ below ++ held
held_back-late window below held timely above within late' =
    map-append (beyond window (below ++ held)) below held
    ∙ rw (kept window (below ++ held) below timely few, late_already window (below ++ held) held late') refl
  where
    few : All (λ o. lower (below ++ held) o < window) below
    few i d low =
        let o : OpenRequest = get_or below i d in
        let split : lower (below ++ held) o ≡ lower below o + lower held o = sum_by-append _ below held in
        let a : lower below o < length below = few_lower below i d low in
        let z : lower held o ≡ 0 =
        none_lower o held (All-weaker (IsAbove below) (λ x. o.number < x.number) (λ x all. all i d low) held above)
        in
        omega arith

module _ (stack_size : ℕ) (v : DeviceView) (b : TableView) (s : State) (packets : List Packet)
    (rooms : List (Option Reserved)) (adapter : AdapterView) (paused removing : Bool)
    (requests : IsPermutation s.requests v.state.requests) (same_packets : IsPermutation packets v.packets)
    (same_rooms : SameRooms v.rooms rooms) (next_request : s.next_request ≡ v.state.next_request)
    (not_paused : IsFalse s.paused) (removing_is : removing ≡ s.removing)
    (going : IsTrue removing → IsFalse paused) (k : FilterKept stack_size v b)
    (ordered_now : IsOrderly (moved_to v s packets rooms adapter)) where
  abbrev pub books_turned : TableView
  books_turned = record b { paused = paused; removing = removing }

  abbrev as_now : Held → OpenRequest
  as_now x = open_here v.rules (paused || removing) x

  abbrev as_before : Held → OpenRequest
  as_before x = open_here v.rules (are_late b) x

  same_numbers : IsPermutation (map request_number (v.state.requests ++ map as_before (here b)))
      (map request_number (s.requests ++ map as_now (here b)))
  same_numbers =
      let before : map request_number (v.state.requests ++ map as_before (here b)) ≡ map request_number
      v.state.requests ++ map (λ (x : Held). x.irp.value.number) (here b) =
      map-append request_number v.state.requests (map as_before (here b))
      ∙ ap (λ ns. map request_number v.state.requests ++ ns)
      (maps_are as_before request_number (λ (x : Held). x.irp.value.number) (λ x. refl) (here b)) in
      let now : map request_number (s.requests ++ map as_now (here b)) ≡ map request_number s.requests ++ map
      (λ (x : Held). x.irp.value.number) (here b) =
      map-append request_number s.requests (map as_now (here b))
      ∙ ap (λ ns. map request_number s.requests ++ ns)
      (maps_are as_now request_number (λ (x : Held). x.irp.value.number) (λ x. refl) (here b)) in
      subst (λ ns. IsPermutation ns (map request_number (s.requests ++ map as_now (here b)))) (sym before)
      (subst (λ ns. IsPermutation
      (map request_number v.state.requests ++ map (λ (x : Held). x.irp.value.number) (here b)) ns) (sym now)
      (IsPermutation-append_left (map (λ (x : Held). x.irp.value.number) (here b)) _ _
      (IsPermutation-map request_number _ _ (IsPermutation-sym _ _ requests))))

  -- what says nothing of lateness holds of those here
  here_now : (P : OpenRequest → Type 0) → ((x : Held) → P (as_before x) → P (as_now x))
      → All P (map as_before (here b))
      → All P (map as_now (here b))
  here_now P same h = All-map P as_now (here b)
      (All-weaker (λ x. P (as_before x)) (λ x. P (as_now x)) same (here b) (All-from_map P as_before (here b) h))

  distinct_now : AreDistinct (framed (frame_of v.rules books_turned) s)
  distinct_now = record {
    requests = IsDistinct-IsPermutation eqb flips _ _ same_numbers k.distinct.requests;
    given = All-append (IsGiven (b.last_number + 1)) s.requests (map as_now (here b))
        (All-permutation (IsGiven (b.last_number + 1)) _ _ (IsPermutation-sym _ _ requests)
        (All-first (IsGiven (b.last_number + 1)) v.state.requests (map as_before (here b)) k.distinct.given))
        (here_now (IsGiven (b.last_number + 1)) (λ x low. low)
        (All-second (IsGiven (b.last_number + 1)) v.state.requests (map as_before (here b)) k.distinct.given));
    pieces = ordered_now.distinct.pieces;
    sent = ordered_now.distinct.sent;
  }

  holds_now : Holds b.window (frame_of v.rules books_turned) s
  holds_now = record {
    above = here_now (IsAbove s.requests) (λ x above. above)
        (All-weaker (IsAbove v.state.requests) (IsAbove s.requests)
        (λ x all. All-permutation (HasLowerNumber x) _ _ (IsPermutation-sym _ _ requests) all)
        (map as_before (here b))
        k.holds.above);
    timely = All-permutation IsTimely _ _ (IsPermutation-sym _ _ requests) k.holds.timely;
    not_paused = not_paused;
    within = let n = length_permutation _ _ requests in let w = k.holds.within in omega arith;
  }

  pub kept_turned : (IsFalse paused → IsFalse removing → (b.ended ≡ []) ⊎ (b.window ≤ length v.state.requests))
      → FilterKept stack_size (moved_to v s packets rooms adapter) books_turned
  kept_turned full = record {
    below = record { own_location = k.below.own_location; no_window = k.below.no_window; most = k.below.most };
    ordered = ordered_now;
    rooms = kept_same v.rules v.rooms v.packets b.held b.ended b.places k.rooms rooms packets same_rooms
        same_packets;
    asked = k.asked;
    asked_below = All-permutation (AsksAdmitted v.rules) _ _ (IsPermutation-sym _ _ requests) k.asked_below;
    can_go = k.can_go;
    cancelled = k.cancelled;
    whole = k.whole;
    in_turn = k.in_turn;
    holds = holds_now;
    distinct = distinct_now;
    counted = k.counted ∙ length_permutation _ _ same_packets;
    passed = All-permutation IsPassed _ _ (IsPermutation-sym _ _ same_packets) k.passed;
    next_below = subst (λ n. n ≤ b.last_number + 1) (sym next_request) k.next_below;
    later = subst (λ n. All (IsFrom n) b.held) (sym next_request) k.later;
    some_window = k.some_window;
    removing = removing_is;
    going = going;
    full = λ now_going staying. subst (λ n. (b.ended ≡ []) ⊎ (b.window ≤ n))
        (sym (length_permutation _ _ (IsPermutation-sym _ _ requests))) (full now_going staying);
    submitted = k.submitted;
    few = k.few;
  }

-- THE CALLS

module _ (stack_size : ℕ) (v : DeviceView) (b : TableView) where
  abbrev open_late : Bool → Held → OpenRequest
  open_late l x = open_here v.rules l x

  -- those here, made late, and made timely
  made_late : (l : Bool) → map late (map (open_late l) (here b)) ≡ map (open_late true) (here b)
  made_late l = maps_are (open_late l) late (open_late true) (λ x. refl) (here b)

  made_timely : (l : Bool) → map as_timely (map (open_late l) (here b)) ≡ map (open_late false) (here b)
  made_timely l = maps_are (open_late l) as_timely (open_late false) (λ x. refl) (here b)

  all_late : All IsLate (map (open_late true) (here b))
  all_late = All-map IsLate (open_late true) (here b) (λ i d low. refl)

  module _ (k : IsInHand stack_size v b) where
    -- nothing is here, or the window is full
    none_or_full : IsFalse b.paused → IsFalse b.removing
        → (requests_here v.rules b ≡ []) ⊎ (b.window ≤ length v.state.requests)
    none_or_full going staying = elim (k.released going staying) [
      | inr full ↦ inr full
      | inl none_held ↦ elim (k.kept.full going staying) [
        | inr full ↦ inr full
        | inl none_ended ↦ inl
            (ap (λ (es : List (ℕ × Held)). map (open_late (are_late b)) (map packet_in es ++ map packet_in b.ended))
            none_held ∙ ap (λ (es : List (ℕ × Held)). map (open_late (are_late b)) (map packet_in es)) none_ended)
      ]
    ]

    -- A PAUSE

    late_as : (l : Bool) → are_late b ≡ l → requests_here v.rules b ≡ map (open_late l) (here b)
    late_as l e = ap (λ m. map (open_late m) (here b)) e

    pub pauses : IsFalse b.paused → IsFalse v.state.removing
        → PausesAll (view_of v b) (view_of v (record b { paused = true }))
    pauses going staying =
        let stays : IsFalse b.removing = k.kept.removing ∙ staying in
        let p : Pauses (with_window (Some b.window) v.rules) (state_of v b)
        (framed (record (frame_of v.rules b) { held = map late (requests_here v.rules b); paused = true }) v.state)
        =
        Pauses-framed v.rules b.window (frame_of v.rules b) v.state going staying k.kept.holds.timely
        k.kept.holds.above
        k.kept.holds.within (none_or_full going stays) in
        record {
          pauses = subst (λ os. Pauses (with_window (Some b.window) v.rules) (state_of v b)
              (framed (record (frame_of v.rules b) { held = os; paused = true }) v.state)) (made_late (are_late b))
              p;
          beside = record {
            same_rules = refl;
            same_packets = IsPermutation-refl _;
            same_rooms =
                rooms_refl (without v.rooms (here b));
            same_submitted = refl;
            same_most = refl;
            same_places = refl;
            same_adapter = refl;
          };
        }

    pub hand_paused : IsFalse b.removing → IsInHand stack_size v (record b { paused = true })
    hand_paused staying =
        in_hand stack_size v (record b { paused = true })
        (kept_turned stack_size v b v.state v.packets v.rooms v.adapter true b.removing (IsPermutation-refl _)
        (IsPermutation-refl _) (rooms_refl v.rooms) refl k.kept.holds.not_paused k.kept.removing
        (λ removing. cc (staying, removing)) k.kept k.kept.ordered (λ now_going stays. cc (now_going)))
        (λ now_going stays. cc (now_going))

    -- ITS END

    pub none_left : All WaitsIfCancelled (state_of v b).requests → b.ended ≡ []
    none_left waits =
        none_of b.ended k.kept.cancelled
        (All-second (λ (x : Held). WaitsIfCancelled (open_late (are_late b) x)) (map packet_in b.held)
        (map packet_in b.ended)
        (All-from_map WaitsIfCancelled (open_late (are_late b)) (here b)
        (All-second WaitsIfCancelled v.state.requests (requests_here v.rules b) waits)))
      where
        none_of : (ended : List (ℕ × Held)) → All IsCancelled (map packet_in ended)
            → All (λ (x : Held). WaitsIfCancelled (open_late (are_late b) x)) (map packet_in ended) → ended ≡ []
        none_of [] cancelled waits = refl
        none_of (x ∷ rest) cancelled waits =
            let out_now : IsTrue (has_out (open_late (are_late b) x.1)) =
            All-head (λ (y : Held). WaitsIfCancelled (open_late (are_late b) y)) x.1 (map packet_in rest) waits
            (All-head IsCancelled x.1 (map packet_in rest) cancelled) in
            absurd (none_out (place_count v.rules (as_client v.rules (request_in x.1.irp.value) [])) out_now)

    not_removing : IsTrue b.paused → IsFalse b.removing
    not_removing paused = by b.removing refl
      where
        by : (removing : Bool) → b.removing ≡ removing → IsFalse b.removing
        by true is = cc (k.kept.going is, paused)
        by false is = is

    pub kept_resumed : IsTrue b.paused → All WaitsIfCancelled (state_of v b).requests
        → FilterKept stack_size v (record b { paused = false })
    kept_resumed paused waits =
        kept_turned stack_size v b v.state v.packets v.rooms v.adapter false b.removing (IsPermutation-refl _)
        (IsPermutation-refl _) (rooms_refl v.rooms) refl k.kept.holds.not_paused k.kept.removing
        (λ removing. refl) k.kept k.kept.ordered (λ now_going stays. inl (none_left waits))

    pub resumes : IsTrue b.paused → (v' : DeviceView) (b' : TableView)
        → Releases (view_of v (record b { paused = false })) (view_of v' b')
        → ResumesAll (view_of v b) (view_of v' b')
    resumes paused v' b' r =
        let h : Resumes (state_of v b)
        (framed (record (frame_of v.rules b) { held = map as_timely (requests_here v.rules b); paused = false })
        v.state) =
        Resumes-framed (frame_of v.rules b) v.state paused k.kept.holds.timely in
        let same : map as_timely (requests_here v.rules b) ≡ requests_here v.rules (record b { paused = false }) =
        made_timely (are_late b) ∙ ap (λ l. map (open_late l) (here b)) (sym (not_removing paused)) in
        record {
          resumed = state_of v (record b { paused = false });
          starts = r.starts;
          resumes = subst (λ os. Resumes (state_of v b)
              (framed (record (frame_of v.rules b) { held = os; paused = false }) v.state)) same h;
          only_starts = r.only_starts;
          moves = record {
            same_rules = r.moves.same_rules;
            same_packets = r.moves.same_packets;
            same_rooms = r.moves.same_rooms;
            same_submitted = r.moves.same_submitted;
            same_most = r.moves.same_most;
            same_places = r.moves.same_places;
            run = r.moves.run;
            adapter = r.moves.adapter;
          };
        }

    -- A REMOVAL

    abbrev pub books_removed : TableView
    books_removed = record b { paused = false; removing = true }

    -- whatever was held back before
    held_back_all : (if b.paused then (state_of v b).requests else held_back (Some b.window)
        (state_of v b).requests)
        ≡ v.state.requests ++ map (open_late true) (here b)
    held_back_all = by b.paused b.removing refl refl
      where
        by : (paused removing : Bool) → b.paused ≡ paused → b.removing ≡ removing
            → (if paused then (state_of v b).requests else held_back (Some b.window) (state_of v b).requests)
            ≡ v.state.requests ++ map (open_late true) (here b)
        by true removing is gone = ap (λ os. v.state.requests ++ os) (late_as true (ap (λ p. p || b.removing) is))
        by false true is gone =
            let same : requests_here v.rules b ≡ map (open_late true) (here b) =
            late_as true (rw (is, gone) refl) in
            ap (λ os. held_back (Some b.window) (v.state.requests ++ os)) same
            ∙ held_back-late b.window v.state.requests (map (open_late true) (here b)) k.kept.holds.timely
            (subst (All (IsAbove v.state.requests)) same k.kept.holds.above) k.kept.holds.within all_late
        by false false is gone =
            held_back-framed b.window v.state.requests (requests_here v.rules b) k.kept.holds.timely
            k.kept.holds.above
            k.kept.holds.within (none_or_full is gone)
            ∙ ap (λ os. v.state.requests ++ os) (made_late (are_late b))

    module _ (v' : DeviceView) (d : DrainsAll v v') where
      same_requests : IsPermutation v'.state.requests v.state.requests
      same_requests = subst (λ os. IsPermutation v'.state.requests os)
          (same_below v.state.paused v.rules.window v.state.requests k.kept.below.no_window) d.drains.requests

      shown_drains : Drains (with_window (Some b.window) v.rules) (state_of v b)
          (framed (frame_of v.rules books_removed) v'.state)
      shown_drains = record {
        arrays = d.drains.arrays;
        next_request = refl;
        next_piece = d.drains.next_piece;
        requests = subst (λ os. IsPermutation (v'.state.requests ++ map (open_late true) (here b)) os)
            (sym held_back_all) (IsPermutation-append_left (map (open_late true) (here b)) _ _ same_requests);
        pieces = d.drains.pieces;
        owed = d.drains.owed;
        paused = refl;
        removing = d.drains.removing;
        removed = d.drains.removed;
      }

      view_now : v' ≡ moved_to v v'.state v'.packets v'.rooms v'.adapter
      view_now = moved_is v v' d.beside.same_rules d.beside.same_submitted d.beside.same_most
          d.beside.same_places

      pub drains : DrainsAll (view_of v b) (view_of v' books_removed)
      drains = subst (λ (x : DeviceView). DrainsAll (view_of v b) (view_of x books_removed)) (sym view_now)
          (record {
            drains = shown_drains;
            beside = record {
              same_rules = refl;
              same_packets = IsPermutation-append_left (map packet_here (here b)) _ _
                  (IsPermutation-map packet_below _ _ d.beside.same_packets);
              same_rooms = same_without v.rooms v'.rooms (here b) d.beside.same_rooms;
              same_submitted = refl;
              same_most = refl;
              same_places = refl;
              same_adapter = d.beside.same_adapter;
            };
          })

      pub hand_drained : IsOrderly v' → IsInHand stack_size v' books_removed
      hand_drained ordered =
          subst (λ (x : DeviceView). IsInHand stack_size x books_removed) (sym view_now)
          (in_hand stack_size (moved_to v v'.state v'.packets v'.rooms v'.adapter) books_removed
          (kept_turned stack_size v b v'.state v'.packets v'.rooms v'.adapter false true same_requests
          d.beside.same_packets d.beside.same_rooms d.drains.next_request d.drains.paused (sym d.drains.removing)
          (λ removing. refl) k.kept (subst IsOrderly view_now ordered) (λ now_going stays. cc (stays)))
          (λ now_going stays. cc (stays)))
