-- A packet leaves that ended in the filter.
use Rattle.hold_filter.proofs.Common.{◌≡◌, ◌≢◌, ◌<◌, ◌≤◌, ◌⊎◌, inl, inr, ℕ, zero, suc, Bool, true, false, List, [], ◌∷◌, ◌++◌, Some, None, refl, sym, subst, ap, ◌∙◌, arith, map, length, replicate, All-nil, All-head, All-tail, Contains-get_or, IsPermutation-refl, IsPermutation-trans, IsPermutation-map, IsPermutation-middle, IsPermutation-append_right, All-permutation, NtStatus, Success, DeviceBusy, Answer, ClientRequest, Rules, Untouched, Back, OpenRequest, State, IsStart, Answers, IsGivenUp, information, AreDistinct, HasPlaces, request_number, with_window, IsAbove, moves_none, IsSame-refl, first_unique, AreDistinct-Step, Answers-held, Climb, Room, Climbs, DeviceView, Carries, whole_for, HandsUp, IsBack, SetsRoom, Held, TableView, packet_in, here, Hands, HandsOver, request_in, NoneMayGo, packets_of, packet_below, packet_here, without, open_here, are_late, requests_here, frame_of, state_of, view_of, IsBefore, AreInTurn, IsCancelled, IsFrom, IsAsked, IsWhole, IsAtOwn, EntryCanGo, FilterKept, IsInHand, carries_none}
use Rattle.std.specs.Prelude.{All, IsPermutation, IsTrue, IsFalse, ◌||◌}
use Rattle.hold_filter.proofs.Here.{not_started, has_places}
use Rattle.hold_filter.proofs.Moving.{in_hand}
use Rattle.hold_filter.proofs.Rooms.{sets_out, sets_same, reordered, rooms_refl}
use Rattle.hold_filter.proofs.Spots.{kept_out, has_room, others_off}

-- the request that was answered is the one of its number
pub answered_is : (rules : Rules) (s : State) (number : ℕ) (status : NtStatus) (bytes : List ℕ) (s' : State)
    (h : Answers rules s number status bytes s') (o : OpenRequest) (others : List OpenRequest) → AreDistinct s
    → IsPermutation s.requests (o ∷ others) → o.number ≡ number
    → h.request ≡ o
answered_is rules s number status bytes s' h o others distinct p same =
    sym (first_unique request_number s.requests o h.request others h.others distinct.requests p h.is_open
    (h.is_number ∙ sym same)).0

-- places that are untouched are not back
untouched_not_back : (n : ℕ) → 0 < length (replicate n Untouched) → All IsBack (replicate n Untouched) → ⊥
untouched_not_back zero some all = absurd (omega arith)
untouched_not_back (suc n) some all = let e : Untouched ≡ Back =
    All-head IsBack Untouched (replicate n Untouched) all in cc (e)

module _ (stack_size : ℕ) (v : DeviceView) (b : TableView) (x : Held) (held ended : List (ℕ × Held)) where
  abbrev pub books_left : TableView
  books_left = record b { held = held; ended = ended }

  -- the packet leaves, and the others stay
  pub record Leaves : Type 0 where
    pub first : IsPermutation (here b) (x ∷ (map packet_in held ++ map packet_in ended))
    pub held_own : All IsAtOwn held
    pub ended_own : All IsAtOwn ended
    pub can_go : All (EntryCanGo stack_size v.rules) held
    pub cancelled : All IsCancelled (map packet_in ended)
    pub whole : All (IsWhole v.rules) (map packet_in ended)
    pub in_turn : AreInTurn held
    pub later : All (IsFrom v.state.next_request) held
    pub full : IsFalse b.paused → IsFalse b.removing → (ended ≡ []) ⊎ (b.window ≤ length v.state.requests)
    pub released : NoneMayGo v books_left
    pub fewer : length held ≤ length b.held
    pub carries : Carries false v.rules (request_in x.irp.value) x.irp.value.payload

  module _ (status : NtStatus) (h : Leaves) (k : FilterKept stack_size v b) where
    abbrev open_as : Held → OpenRequest
    open_as p = open_here v.rules (are_late b) p

    asked_all : All (IsAsked v.rules) (x ∷ here books_left)
    asked_all = All-permutation (IsAsked v.rules) _ _ h.first k.asked

    some_places : HasPlaces (open_as x)
    some_places = has_places v.rules (are_late b) x (All-head (IsAsked v.rules) x (here books_left) asked_all)

    held_first : IsPermutation (requests_here v.rules b) (open_as x ∷ requests_here v.rules books_left)
    held_first = IsPermutation-map open_as _ _ h.first

    answers : IsGivenUp (state_of v b) (open_as x) status
        → Answers (with_window (Some b.window) v.rules) (state_of v b) x.irp.value.number status []
        (state_of v books_left)
    answers given_up =
        Answers-held (frame_of v.rules b) (with_window (Some b.window) v.rules) v.state (open_as x)
        (requests_here v.rules books_left) status held_first some_places (not_started v.rules (are_late b) x)
        given_up

    all_first : IsPermutation (state_of v b).requests
        (open_as x ∷ (v.state.requests ++ requests_here v.rules books_left))
    all_first = IsPermutation-trans _ _ _ (IsPermutation-append_right v.state.requests _ _ held_first)
        (IsPermutation-middle v.state.requests (open_as x) (requests_here v.rules books_left))

    -- its spot is reserved again in what is shown
    room_back : SetsRoom (without v.rooms (here b)) x.room.spot None (Some (whole_for (request_in x.irp.value)))
        (without v.rooms (here books_left))
    room_back =
        sets_same _ _ _ _ x.room.spot None _
        (λ spot. sym (reordered v.rooms (here b) (x ∷ here books_left) h.first spot))
        (rooms_refl (without v.rooms (here books_left)))
        (sets_out v.rooms x (here books_left) (Some (whole_for (request_in x.irp.value)))
        (has_room v.rules v.rooms v.packets b.held b.ended b.places k.rooms x (here books_left) h.first)
        (others_off v.rules v.rooms v.packets b.held b.ended b.places k.rooms x (here books_left) h.first))

    pub kept_left : IsGivenUp (state_of v b) (open_as x) status → FilterKept stack_size v books_left
    kept_left given_up = record {
      below = k.below;
      ordered = k.ordered;
      rooms = kept_out v.rules v.rooms v.packets b.held b.ended b.places k.rooms x held ended h.first h.held_own
          h.ended_own;
      asked = All-tail (IsAsked v.rules) x (here books_left) asked_all;
      asked_below = k.asked_below;
      can_go = h.can_go;
      cancelled = h.cancelled;
      whole = h.whole;
      in_turn = h.in_turn;
      holds = record {
        above = All-tail (IsAbove v.state.requests) (open_as x) (requests_here v.rules books_left)
            (All-permutation (IsAbove v.state.requests) _ _ held_first k.holds.above);
        timely =
            k.holds.timely;
        not_paused = k.holds.not_paused;
        within = k.holds.within;
      };
      distinct = AreDistinct-Step (with_window (Some b.window) v.rules) (state_of v b)
          (Answer x.irp.value.number status (information (answers given_up).request.request status) [])
          (state_of v books_left) k.distinct
          (inl (k.ordered.none_owed, record { answers = answers given_up; informs = refl }));
      counted = k.counted;
      passed = k.passed;
      next_below = k.next_below;
      later = h.later;
      some_window = k.some_window;
      removing = k.removing;
      going = k.going;
      full = h.full;
      submitted = let c = k.submitted in let n = h.fewer in omega arith;
      few = k.few;
    }

    pub hand_left : IsGivenUp (state_of v b) (open_as x) status → IsInHand stack_size v books_left
    hand_left given_up = in_hand stack_size v books_left (kept_left given_up) h.released

    pub hands_up : IsGivenUp (state_of v b) (open_as x) status → status ≢ Success → status ≢ DeviceBusy
        → ((q : ClientRequest) → information q status ≡ 0) → (climb : Climb) (room : Room)
        → HandsOver x status climb room
        → HandsUp false (view_of v b) climb room.spot (view_of v books_left)
    hands_up given_up not_success not_busy nothing climb room over =
        let a : Answers (with_window (Some b.window) v.rules) (state_of v b) x.irp.value.number status []
        (state_of v books_left) = answers given_up in
        let e : a.request ≡ open_as x = answered_is (with_window (Some b.window) v.rules)
        (state_of v b) x.irp.value.number status [] (state_of v books_left) a (open_as x) _ k.distinct all_first
        refl in
        subst (λ (r : Room). HandsUp false (view_of v b) climb r.spot (view_of v books_left)) (sym over.is_room)
        (record {
          answer = record {
            packet = packet_here x;
            is_spot = refl;
            request = request_in x.irp.value;
            payload = x.irp.value.payload;
            status = status;
            bytes = [];
            answered = state_of v books_left;
            answers = a;
            is_request = ap (λ (o : OpenRequest). o.request) e;
          };
          brought = record {
            moved = λ is. absurd (not_success is);
            busy = λ one all. absurd
                (untouched_not_back _ some_places (subst (λ (o : OpenRequest). All IsBack o.marks) e all));
            carries = λ is. absurd (not_busy is);
            brings = λ is succeeds. absurd (not_success succeeds);
            filled = λ is succeeds. absurd (not_success succeeds);
            empty = carries_none false v.rules (request_in x.irp.value) x.irp.value.payload h.carries;
          };
          left = record {
            whole = true;
            is_whole = λ takes. refl;
            room = room_back;
            others = packets_of v books_left;
            is_in = IsPermutation-trans _ _ _
                (IsPermutation-append_right (map packet_below v.packets) _ _
                (IsPermutation-map packet_here _ _ h.first))
                (IsPermutation-middle (map packet_below v.packets) (packet_here x)
                (map packet_here (here books_left)));
            starts = [];
            only_starts = All-nil IsStart;
            moves = record {
              same_rules = refl;
              same_packets = IsPermutation-refl _;
              same_rooms = rooms_refl (without v.rooms (here books_left));
              same_submitted = refl;
              same_most = refl;
              same_places = refl;
              run = IsSame-refl _;
              adapter = moves_none v.adapter;
            };
            started_stay = λ i d low started. Contains-get_or (state_of v books_left).requests i d low;
            still = λ window. (refl, refl);
          };
          climbs = subst (λ (o : OpenRequest). Climbs (packet_here x).above x.irp.value.number o.cancelled status
              (information o.request status) x.irp.value.payload climb) (sym e)
              (subst (λ (n : ℕ). Climbs (packet_here x).above x.irp.value.number x.irp.value.cancelled status n
              x.irp.value.payload climb) (sym (nothing (open_as x).request)) over.climbs);
          brings_routine = over.brings;
        })

-- AS THE CALLS SAY IT

module _ (stack_size : ℕ) (v : DeviceView) (b : TableView) (x : Held) (k : IsInHand stack_size v b) where
  -- one that was cancelled while it was held leaves
  leaves_cancelled : (at : ℕ) (rest : List (ℕ × Held)) → b.ended ≡ (at, x) ∷ rest
      → Leaves stack_size v b x b.held rest
  leaves_cancelled at rest is_front =
      let hs : map packet_in b.ended ≡ x ∷ map packet_in rest =
      ap (λ (es : List (ℕ × Held)). map packet_in es) is_front in
      record {
        first = subst (λ ps. IsPermutation (map packet_in b.held ++ ps)
            (x ∷ (map packet_in b.held ++ map packet_in rest))) (sym hs)
            (IsPermutation-middle (map packet_in b.held) x (map packet_in rest));
        held_own = k.kept.rooms.held_own;
        ended_own = All-tail IsAtOwn (at, x) rest (subst (All IsAtOwn) is_front k.kept.rooms.ended_own);
        can_go = k.kept.can_go;
        cancelled = All-tail IsCancelled x (map packet_in rest) (subst (All IsCancelled) hs k.kept.cancelled);
        whole = All-tail (IsWhole v.rules) x (map packet_in rest) (subst (All (IsWhole v.rules)) hs k.kept.whole);
        in_turn = k.kept.in_turn;
        later = k.kept.later;
        full = λ going staying. elim (k.kept.full going staying)
            [ inl none ↦ cc (sym is_front ∙ none) | inr full ↦ inr full ];
        released = k.released;
        fewer = omega arith;
        carries = All-head (IsWhole v.rules) x (map packet_in rest) (subst (All (IsWhole v.rules)) hs k.kept.whole);
      }

  is_cancelled : (at : ℕ) (rest : List (ℕ × Held)) → b.ended ≡ (at, x) ∷ rest → IsCancelled x
  is_cancelled at rest is_front =
      All-head IsCancelled x (map packet_in rest)
      (subst (λ (es : List (ℕ × Held)). All IsCancelled (map packet_in es)) is_front k.kept.cancelled)

  -- or, once the device is removed, the one that was held longest
  leaves_removed : (at : ℕ) (rest : List (ℕ × Held)) → b.ended ≡ [] → IsTrue b.removing → b.held ≡ (at, x) ∷ rest
      → Leaves stack_size v b x rest b.ended
  leaves_removed at rest none removing is_front = record {
    first = subst (λ es. IsPermutation (map packet_in es ++ map packet_in b.ended)
        (x ∷ (map packet_in rest ++ map packet_in b.ended))) (sym is_front) (IsPermutation-refl _);
    held_own = All-tail IsAtOwn (at, x) rest (subst (All IsAtOwn) is_front k.kept.rooms.held_own);
    ended_own = k.kept.rooms.ended_own;
    can_go = All-tail (EntryCanGo stack_size v.rules) (at, x) rest
        (subst (All (EntryCanGo stack_size v.rules)) is_front k.kept.can_go);
    cancelled = k.kept.cancelled;
    whole = k.kept.whole;
    in_turn = let turn : All (IsBefore (at, x)) rest × AreInTurn rest = subst AreInTurn is_front k.kept.in_turn in
        turn.1;
    later = All-tail (IsFrom v.state.next_request) (at, x) rest
        (subst (All (IsFrom v.state.next_request)) is_front k.kept.later);
    full = λ going staying. cc (staying, removing);
    released = λ going staying. cc (staying, removing);
    fewer = let n = ap length is_front in omega arith;
    carries = (All-head (EntryCanGo stack_size v.rules) (at, x) rest
        (subst (All (EntryCanGo stack_size v.rules)) is_front k.kept.can_go)).carries;
  }

  removed_late : IsTrue b.removing → IsTrue (are_late b)
  removed_late removing = by b.paused removing
    where
      by : (paused : Bool) → IsTrue b.removing → (paused || b.removing) ≡ true
      by true is = refl
      by false is = is

  module _ (status : NtStatus) (climb : Climb) (room : Room) (over : HandsOver x status climb room) where
    -- what a packet that ended here leaves
    abbrev HasLeft : TableView → Type 0
    HasLeft b' = IsInHand stack_size v b' × HandsUp false (view_of v b) climb room.spot (view_of v b')

    pub has_ended : (b' : TableView) → Hands b x status b' → HasLeft b'
    has_ended b' (inl h) =
        let l = leaves_cancelled h.spot h.rest h.is_front in
        let given : IsGivenUp (state_of v b) (open_here v.rules (are_late b) x) status =
        inl (is_cancelled h.spot h.rest h.is_front, h.is_status) in
        let left : IsInHand stack_size v (record b { ended = h.rest }) =
        hand_left stack_size v b x b.held h.rest status l k.kept given in
        let up : HandsUp false (view_of v b) climb room.spot (view_of v (record b { ended = h.rest })) =
        hands_up stack_size v b x b.held h.rest status l k.kept given (λ e. cc (sym h.is_status ∙ e))
        (λ e. cc (sym h.is_status ∙ e)) (λ q. rw h.is_status refl) climb room over in
        subst HasLeft (sym h.after) (left, up)
    has_ended b' (inr h) =
        let l = leaves_removed h.spot h.rest h.none_ended h.removing h.is_front in
        let given : IsGivenUp (state_of v b) (open_here v.rules (are_late b) x) status =
        inr (sym k.kept.removing ∙ h.removing, h.is_status ∙ rw (removed_late h.removing) refl) in
        let left : IsInHand stack_size v (record b { held = h.rest }) =
        hand_left stack_size v b x h.rest b.ended status l k.kept given in
        let up : HandsUp false (view_of v b) climb room.spot (view_of v (record b { held = h.rest })) =
        hands_up stack_size v b x h.rest b.ended status l k.kept given (λ e. cc (sym h.is_status ∙ e))
        (λ e. cc (sym h.is_status ∙ e)) (λ q. rw h.is_status refl) climb room over in
        subst HasLeft (sym h.after) (left, up)
