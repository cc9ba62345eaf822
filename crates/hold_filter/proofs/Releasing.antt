-- The packet that was held longest goes below.
use Rattle.hold_filter.proofs.Common.{◌≡◌, ◌<◌, ◌≤◌, inl, inr, ℕ, ◌+◌, Bool, true, false, List, [], ◌∷◌, ◌++◌, Option, Some, refl, sym, subst, ap, ◌∙◌, arith, map, length, nat_tests, map-append, All-nil, All-cons, All-head, All-tail, All-map, All-weaker, All-append, All-same, IsPermutation-refl, IsPermutation-sym, IsPermutation-trans, IsPermutation-map, IsPermutation-middle, IsPermutation-append_left, All-permutation, length_permutation, AdapterView, Irp, Payload, with_cancel_routine, ClientRequest, Request, Rules, as_client, OpenRequest, State, IsSame, new_request, IsStart, Run, as_label, IsGiven, Frame, framed, with_window, IsAbove, Holds, DeviceView, Packet, Reserved, packet_of, request_of, request_at, whole_for, sent_bytes, IsOrderly, AsksInLocation, Carries, Submits, SameRooms, IsSame-refl, IsSame-sym, Run-same, Run-append, AreDistinct-Run, Run-framed, Opens-framed, Holds-Run, Holds-Opens, AllMayPass-above, moves_none, moves_joined, Held, TableView, packet_in, here, LetsGo, LetsNoneGo, PassesDown, request_in, packets_of, packet_below, packet_here, without, open_here, are_late, requests_here, frame_of, state_of, view_of, MaySend, Sends, Releases, LetsOneGo, NoneMayGo, Spares, IsBefore, AreInTurn, IsFrom, IsAsked, IsPassed, IsAdmitted, AsksAdmitted, IsAtOwn, HasRoom, HasPlace, RoomsKept, CanGo, EntryCanGo, FilterKept}
use Rattle.std.specs.Prelude.{All, IsPermutation, IsFalse, ◌&&◌, not, nat_lt}
use Rattle.hold_filter.proofs.Lists.{All-second}
use Rattle.hold_filter.proofs.Locations.{passed_above, asks_with, shown_as}
use Rattle.hold_filter.proofs.Moving.{counted, run_keeps, run_asks}
use Rattle.hold_filter.proofs.Rooms.{IsOff, goes_along, rooms_refl, rooms_trans}
use Rattle.hold_filter.proofs.Spots.{kept_out, kept_less, has_room, others_off}

-- what is shown after a packet went below, but for machine, packets, rooms and adapter
abbrev pub sent_to : DeviceView → State → List Packet → List (Option Reserved) → AdapterView → DeviceView
sent_to v s packets rooms adapter =
    record v { state = s; packets = packets; rooms = rooms; submitted = v.submitted + 1; adapter = adapter }

pub sent_is : (v v' : DeviceView) → v'.rules ≡ v.rules → v'.submitted ≡ v.submitted + 1 → v'.most ≡ v.most → v'.places ≡ v.places
    → v' ≡ sent_to v v'.state v'.packets v'.rooms v'.adapter
sent_is v v' r s m p =
    ap (λ (x : Rules). record v' { rules = x }) r
    ∙ ap (λ (n : ℕ). record v' { rules = v.rules; submitted = n }) s
    ∙ ap (λ (n : ℕ). record v' { rules = v.rules; submitted = v.submitted + 1; most = n }) m
    ∙ ap (λ (n : ℕ). record v' { rules = v.rules; submitted = v.submitted + 1; most = v.most; places = n }) p

-- as many are below as were counted
pub as_many : (stack_size : ℕ) (v : DeviceView) (b : TableView) → FilterKept stack_size v b
    → length v.state.requests ≡ b.below
as_many stack_size v b k = counted v k.ordered ∙ sym k.counted

module _ (stack_size : ℕ) (v : DeviceView) (b : TableView) (k : FilterKept stack_size v b) (paused : IsFalse b.paused)
    (staying : IsFalse b.removing) (room : b.below < b.window)
    (at : ℕ) (held : Held) (rest : List (ℕ × Held)) (is_front : b.held ≡ (at, held) ∷ rest) where
  sent_count : length v.state.requests ≡ b.below
  sent_count = as_many stack_size v b k

  none_ended : b.ended ≡ []
  none_ended = elim (k.full paused staying) [
    | inl none ↦ none
    | inr full ↦ let n = sent_count in
        absurd (omega arith)
  ]

  front : CanGo stack_size v.rules held
  front = All-head (EntryCanGo stack_size v.rules) (at, held) rest
      (subst (All (EntryCanGo stack_size v.rules)) is_front k.can_go)

  is_from : v.state.next_request ≤ held.irp.value.number
  is_from = All-head (IsFrom v.state.next_request) (at, held) rest
      (subst (All (IsFrom v.state.next_request)) is_front k.later)

  abbrev others : List Held
  others = map packet_in rest ++ map packet_in b.ended

  here_is : here b ≡ held ∷ others
  here_is = ap (λ (es : List (ℕ × Held)). map packet_in es ++ map packet_in b.ended) is_front

  here_first : IsPermutation (here b) (held ∷ others)
  here_first = subst (λ (hs : List Held). IsPermutation hs (held ∷ others)) (sym here_is) (IsPermutation-refl _)

  room_is : HasRoom v.rooms held
  room_is = has_room v.rules v.rooms v.packets b.held b.ended b.places k.rooms held others here_first

  pub request_is : request_at v.rooms held.room.spot ≡ request_in held.irp.value
  request_is = ap request_of room_is

  abbrev as_it_came : Irp
  as_it_came = with_cancel_routine held.routine held.irp.value

  pub may_send : MaySend stack_size v (with_cancel_routine held.routine held.irp.value) held.room.spot
  may_send =
      let n : length b.held ≡ length rest + 1 = ap length is_front ∙ (omega arith) in
      record {
        ready = room_is ∙ ap (λ (q : Request). Some (whole_for q)) (sym request_is);
        not_removing = sym k.removing ∙ staying;
        number = is_from;
        few = let a = k.submitted in let c = k.few in omega arith;
        own_location = subst (λ (q : Request). AsksInLocation false q as_it_came) (sym request_is)
            (asks_with (request_in held.irp.value) held.irp.value held.routine front.asks);
        locations = front.locations;
        some_location = k.below.own_location;
        not_cancelled = front.not_cancelled;
        carries = subst (λ (q : Request). Carries false v.rules q held.irp.value.payload)
            (sym request_is) front.carries;
      }

  -- THE PACKET BELOW

  module _ (irp : Irp) (p : PassesDown (with_cancel_routine held.routine held.irp.value) irp) (s : State)
      (packets : List Packet) (rooms : List (Option Reserved)) (adapter : AdapterView)
      (h : Submits v (packet_of irp held.room.spot) (request_in held.irp.value) irp.payload
      (sent_to v s packets rooms adapter)) (ordered : IsOrderly (sent_to v s packets rooms adapter)) where
    -- the books after it
    abbrev pub books_sent : TableView
    books_sent = record b { held = rest; below = b.below + 1 }

    abbrev client : ClientRequest
    client = as_client v.rules (request_in held.irp.value) (sent_bytes (request_in held.irp.value).kind irp.payload)

    -- the request that it opens below is the one that the filter shows
    opened_as : open_here v.rules (are_late b) held ≡ new_request v.rules v.state irp.number client
    opened_as =
        ap (λ (n : ℕ). record (open_here v.rules (are_late b) held) { number = n }) (sym p.kept.number)
        ∙ ap (λ (payload : Payload). record (open_here v.rules (are_late b) held) {
          number = irp.number;
          request =
              as_client v.rules (request_in held.irp.value) (sent_bytes (request_in held.irp.value).kind payload);
        })
        (sym p.kept.payload)
        ∙ ap (λ (c : Bool). record (open_here v.rules (are_late b) held)
        { number = irp.number; request = client; cancelled = c }) front.not_cancelled
        ∙ ap (λ (l : Bool). record (new_request v.rules v.state irp.number client) { late = l })
        (late_is ∙ sym k.holds.not_paused)
      where
        late_is : are_late b ≡ false
        late_is = rw (paused, staying) refl

    held_is : requests_here v.rules b ≡ new_request v.rules v.state irp.number client ∷ requests_here v.rules
        books_sent
    held_is =
        ap (map (open_here v.rules (are_late b))) here_is
        ∙ ap (λ (o : OpenRequest). o ∷ requests_here v.rules books_sent) opened_as

    abbrev frame : Frame
    frame = frame_of v.rules books_sent

    -- so opening it below changes nothing that is shown
    same_shown : IsSame (state_of v b) (framed frame h.opened)
    same_shown =
        subst (λ (os : List OpenRequest). IsSame (framed (record frame { held = os }) v.state)
        (framed frame h.opened))
        (sym held_is)
        (Opens-framed frame (Some b.window) v.rules v.state irp.number client h.opened h.opens)

    above_all : All (IsAbove v.state.requests) (requests_here v.rules books_sent)
    above_all = All-tail (IsAbove v.state.requests) _ _
        (subst (All (IsAbove v.state.requests)) held_is k.holds.above)

    later_all : All (λ (o : OpenRequest). irp.number < o.number) (requests_here v.rules books_sent)
    later_all =
        All-map (λ (o : OpenRequest). irp.number < o.number) (open_here v.rules (are_late b)) (here books_sent)
        (All-append (λ (x : Held). irp.number < x.irp.value.number) (map packet_in rest) (map packet_in b.ended)
        (All-map (λ (x : Held). irp.number < x.irp.value.number) packet_in rest
        (subst (λ n. All (λ (e : ℕ × Held). n < e.1.irp.value.number) rest) (sym p.kept.number) (turn.0)))
        (All-same (λ (x : Held). irp.number < x.irp.value.number) (map packet_in b.ended) []
        (ap (λ es. map packet_in es) none_ended) (All-nil (λ (x : Held). irp.number < x.irp.value.number))))
      where
        turn : All (IsBefore (at, held)) rest × AreInTurn rest
        turn = subst AreInTurn is_front k.in_turn

    holds_opened : Holds b.window frame h.opened
    holds_opened =
        Holds-Opens b.window frame v.rules v.state irp.number client h.opened (requests_here v.rules books_sent)
        above_all later_all k.holds.not_paused k.holds.timely (let n = sent_count in omega arith) h.opens

    run_shown : Run (with_window (Some b.window) v.rules) (state_of v b) (map as_label h.starts) (framed frame s)
    run_shown =
        Run-same (with_window (Some b.window) v.rules) (map as_label h.starts) (framed frame h.opened)
        (state_of v b)
        (framed frame s) (framed frame s) (IsSame-sym _ _ same_shown) (IsSame-refl _)
        (Run-framed frame (Some b.window) v.rules h.opened h.starts s
        (AllMayPass-above b.window frame h.opened holds_opened) h.moves.run)

    -- PACKETS

    packets_shown : IsPermutation (packets_of (sent_to v s packets rooms adapter) books_sent) (packets_of v b)
    packets_shown =
        let shown : packet_below (packet_of irp held.room.spot) ≡ packet_here held =
        shown_as (request_in held.irp.value) held irp front.asks p in
        let first : IsPermutation (map packet_below packets) (packet_here held ∷ map packet_below v.packets) =
        subst (λ (q : Packet). IsPermutation (map packet_below packets) (q ∷ map packet_below v.packets)) shown
        (IsPermutation-map packet_below _ _ h.moves.same_packets) in
        subst (λ (hs : List Held). IsPermutation (packets_of (sent_to v s packets rooms adapter) books_sent)
        (map packet_below v.packets ++ map packet_here hs)) (sym here_is)
        (IsPermutation-trans _ _ _ (IsPermutation-append_left (map packet_here (here books_sent)) _ _ first)
        (IsPermutation-sym _ _
        (IsPermutation-middle (map packet_below v.packets) (packet_here held) (map packet_here (here books_sent)))))

    rooms_shown : SameRooms (without v.rooms (here b)) (without rooms (here books_sent))
    rooms_shown = subst (λ (hs : List Held). SameRooms (without v.rooms hs) (without rooms (here books_sent)))
        (sym here_is) (goes_along v.rooms rooms held others _ h.room)

    pub releases_one : Releases (view_of v b) (view_of (sent_to v s packets rooms adapter) books_sent)
    releases_one = record {
      starts = h.starts;
      only_starts = h.only_starts;
      moves = record {
        same_rules = refl;
        same_packets = packets_shown;
        same_rooms = rooms_shown;
        same_submitted = refl;
        same_most = refl;
        same_places = refl;
        run = run_shown;
        adapter = h.moves.adapter;
      };
    }

    -- KEPT

    rooms_now : RoomsKept v.rules rooms packets rest b.ended b.places
    rooms_now =
        let held_own : All IsAtOwn rest =
        All-tail IsAtOwn (at, held) rest (subst (All IsAtOwn) is_front k.rooms.held_own) in
        let out : RoomsKept v.rules v.rooms v.packets rest b.ended b.places =
        kept_out v.rules v.rooms v.packets b.held b.ended b.places k.rooms held rest b.ended here_first held_own
        k.rooms.ended_own in
        let off : All (IsOff held.room.spot) others =
        others_off v.rules v.rooms v.packets b.held b.ended b.places k.rooms held others here_first in
        let taken : All (HasPlace b.places) packets =
        All-permutation (HasPlace b.places) _ _ (IsPermutation-sym _ _ h.moves.same_packets)
        (All-cons (HasPlace b.places) (packet_of irp held.room.spot) v.packets
        (k.rooms.covered held.room.spot _ room_is) k.rooms.taken) in
        kept_less v.rules v.rooms v.packets rest b.ended b.places out rooms packets held.room.spot _ h.room off
        taken

    asked_now : All (AsksAdmitted v.rules) s.requests
    asked_now =
        let asked : IsAsked v.rules held = All-head (IsAsked v.rules) held (here books_sent)
        (subst (All (IsAsked v.rules)) here_is k.asked) in
        run_asks (IsAdmitted v.rules) v.rules h.starts h.opened s
        (All-permutation (AsksAdmitted v.rules) _ _ (IsPermutation-sym _ _ h.opens.after.requests)
        (All-cons (AsksAdmitted v.rules) (new_request v.rules v.state irp.number client) v.state.requests
        (record { known = asked.known; inside = asked.inside; some = asked.some; places = asked.places })
        k.asked_below)) h.moves.run

    passed_now : IsPassed (packet_of irp held.room.spot)
    passed_now =
        let asked : AsksInLocation false (request_in held.irp.value) as_it_came =
        asks_with (request_in held.irp.value) held.irp.value held.routine front.asks in
        (_, asked.own, passed_above (request_in held.irp.value) as_it_came irp asked p)

    next_is : s.next_request ≡ held.irp.value.number + 1
    next_is = (run_keeps v.rules h.starts h.opened s h.moves.run).next_request ∙ h.opens.after.next_request
        ∙ ap (λ n. n + 1) p.kept.number

    pub kept_sent : FilterKept stack_size (sent_to v s packets rooms adapter) books_sent
    kept_sent =
        let in_turn : All (IsBefore (at, held)) rest × AreInTurn rest = subst AreInTurn is_front k.in_turn in
        let given : irp.number < b.last_number + 1 =
        All-head (IsGiven (b.last_number + 1)) _ _
        (subst (All (IsGiven (b.last_number + 1))) held_is
        (All-second (IsGiven (b.last_number + 1)) v.state.requests (requests_here v.rules b) k.distinct.given)) in
        let n : length b.held ≡ length rest + 1 = ap length is_front ∙ (omega arith) in
        let m : length packets ≡ length v.packets + 1 =
        length_permutation _ _ (IsPermutation-sym _ _ h.moves.same_packets) ∙ (omega arith) in
        record {
          below = record {
            own_location = k.below.own_location;
            no_window = k.below.no_window;
            most =
                k.below.most;
          };
          ordered = ordered;
          rooms = rooms_now;
          asked = All-tail (IsAsked v.rules) held (here books_sent) (subst (All (IsAsked v.rules)) here_is k.asked);
          asked_below = asked_now;
          can_go = All-tail (EntryCanGo stack_size v.rules) (at, held) rest
              (subst (All (EntryCanGo stack_size v.rules)) is_front k.can_go);
          cancelled = k.cancelled;
          whole = k.whole;
          in_turn = in_turn.1;
          holds = Holds-Run b.window frame v.rules h.opened h.starts s holds_opened h.moves.run;
          distinct = AreDistinct-Run (with_window (Some b.window) v.rules) (state_of v b) (map as_label h.starts) _
              k.distinct run_shown;
          counted = let c = k.counted in omega arith;
          passed = All-permutation IsPassed _ _ (IsPermutation-sym _ _ h.moves.same_packets)
              (All-cons IsPassed (packet_of irp held.room.spot) v.packets passed_now k.passed);
          next_below = let e = next_is in let g = given in let e' = p.kept.number in omega arith;
          later = All-weaker (IsBefore (at, held)) (IsFrom s.next_request)
              (λ e before. let f = next_is in omega arith)
              rest in_turn.0;
          some_window = k.some_window;
          removing = k.removing ∙ sym h.opens.after.removing
              ∙ sym (run_keeps v.rules h.starts h.opened s h.moves.run).removing;
          going = k.going;
          full = λ going stays. inl none_ended;
          submitted = let c = k.submitted in omega arith;
          few = k.few;
        }

-- AS THE CALLS SAY IT

pub record HasReleased (stack_size : ℕ) (v : DeviceView) (b : TableView) (v' : DeviceView) (b' : TableView) : Type 0 where
  pub kept : FilterKept stack_size v' b'
  pub releases : Releases (view_of v b) (view_of v' b')
  pub fewer : LetsOneGo b b'
  pub spares : Spares v b v' b'

module _ (stack_size : ℕ) (v : DeviceView) (b : TableView) (v' : DeviceView) (b1 b' : TableView) (held : Held)
    (k : FilterKept stack_size v b) (paused : IsFalse b.paused) (staying : IsFalse b.removing)
    (room : b.below < b.window)
    (lets : LetsGo b held b1) (sends : Sends v (with_cancel_routine held.routine held.irp.value) held.room.spot v')
    (ordered : IsOrderly v') (notes : b' ≡ record b1 { below = b1.below + 1 }) where
  books_now : b' ≡ record b { held = lets.rest; below = b.below + 1 }
  books_now = notes ∙ ap (λ (x : TableView). record x { below = x.below + 1 }) lets.after

  view_now : v' ≡ sent_to v v'.state v'.packets v'.rooms v'.adapter
  view_now = sent_is v v' sends.submits.moves.same_rules sends.submits.moves.same_submitted
      sends.submits.moves.same_most sends.submits.moves.same_places

  pub has_released : HasReleased stack_size v b v' b'
  has_released =
      let asked : Submits v (packet_of sends.sent held.room.spot) (request_in held.irp.value) sends.sent.payload v'
      =
      subst (λ (q : Request). Submits v (packet_of sends.sent held.room.spot) q sends.sent.payload v')
      (request_is stack_size v b k paused staying room lets.spot held lets.rest lets.is_front) sends.submits in
      let h' : Submits v (packet_of sends.sent held.room.spot) (request_in held.irp.value) sends.sent.payload
      (sent_to v v'.state v'.packets v'.rooms v'.adapter) =
      subst (λ (x : DeviceView). Submits v (packet_of sends.sent held.room.spot) (request_in held.irp.value)
      sends.sent.payload x) view_now asked in
      let ordered' : IsOrderly (sent_to v v'.state v'.packets v'.rooms v'.adapter) =
      subst IsOrderly view_now ordered in
      subst (λ (x : DeviceView). HasReleased stack_size v b x b') (sym view_now)
      (subst (λ (y : TableView). HasReleased stack_size v b (sent_to v v'.state v'.packets v'.rooms v'.adapter) y)
      (sym books_now) (record {
        kept = kept_sent stack_size v b k paused staying room lets.spot held lets.rest lets.is_front sends.sent
            sends.passes v'.state v'.packets v'.rooms v'.adapter h' ordered';
        releases = releases_one stack_size v b k paused staying room lets.spot held lets.rest lets.is_front
            sends.sent
            sends.passes v'.state v'.packets v'.rooms v'.adapter h' ordered';
        fewer = let n = ap length lets.is_front in omega arith;
        spares = record {
          below = h'.others_stay;
          rules = refl;
          ended = refl;
          paused = refl;
          removing = refl;
          none_goes = λ none. absurd (goes_on none);
        };
      }))
    where
      goes_on : NoneMayGo v b → ⊥
      goes_on none = elim (none paused staying) [
        | inl nothing ↦ let n = ap length (sym nothing ∙ lets.is_front) in absurd (omega arith)
        | inr full ↦ let n = as_many stack_size v b k in absurd (omega arith)
      ]

-- WHAT THE CALLS ON THE WAY ASK

-- whether one may go, as it was tested
pub may_go : (paused removing : Bool) (below window : ℕ) (result : Bool)
    → result ≡ (not paused && not removing && nat_lt below window) → result ≡ true
    → IsFalse paused × IsFalse removing × (below < window)
may_go true removing below window result is yes' = cc (is, yes')
may_go false true below window result is yes' = cc (is, yes')
may_go false false below window result is yes' = let low : nat_lt below window ≡ true = sym is ∙ yes' in
    (refl, refl, grind (arith, nat_tests))

pub may_not : (paused removing : Bool) (below window : ℕ) (result : Bool)
    → result ≡ (not paused && not removing && nat_lt below window) → result ≡ false → IsFalse paused
    → IsFalse removing
    → window ≤ below
may_not true removing below window result is no' p r = cc (p)
may_not false true below window result is no' p r = cc (r)
may_not false false below window result is no' p r = let high : nat_lt below window ≡ false = sym is ∙ no' in
    grind (arith, nat_tests)

-- the window is full, or none may go
pub none_may : (stack_size : ℕ) (v : DeviceView) (b : TableView) → FilterKept stack_size v b → (result : Bool)
    → result ≡ (not b.paused && not b.removing && nat_lt b.below b.window) → result ≡ false → NoneMayGo v b
none_may stack_size v b k result is no' = λ paused staying. let full : b.window ≤ b.below =
    may_not b.paused b.removing b.below b.window result is no' paused staying in
    let n : length v.state.requests ≡ b.below = as_many stack_size v b k in
    inr (omega arith)

-- nothing goes below, and nothing changes
pub releases_none : (view : DeviceView) → Releases view view
releases_none view = record {
  starts = [];
  only_starts = All-nil IsStart;
  moves = record {
    same_rules = refl;
    same_packets = IsPermutation-refl _;
    same_rooms = rooms_refl view.rooms;
    same_submitted = refl;
    same_most = refl;
    same_places = refl;
    run = IsSame-refl _;
    adapter = moves_none view.adapter;
  };
}

-- where none is held nothing changed
pub releases_same : (v : DeviceView) (b b' : TableView) → LetsNoneGo b b' → Releases (view_of v b) (view_of v b')
releases_same v b b' h = subst (λ (x : TableView). Releases (view_of v b) (view_of v x)) (sym h.same)
    (releases_none (view_of v b))

pub none_left : (v : DeviceView) (b b' : TableView) → LetsNoneGo b b' → NoneMayGo v b'
none_left v b b' h = subst (NoneMayGo v) (sym h.same) (λ going staying. inl h.none_held)

pub kept_none : (stack_size : ℕ) (v : DeviceView) (b b' : TableView) → LetsNoneGo b b' → FilterKept stack_size v b
    → FilterKept stack_size v b'
kept_none stack_size v b b' h k = subst (FilterKept stack_size v) (sym h.same) k

-- one after the other
pub releases_then : (first second third : DeviceView) → Releases first second → Releases second third
    → Releases first third
releases_then first second third g h = record {
  starts = g.starts ++ h.starts;
  only_starts = All-append IsStart g.starts h.starts g.only_starts h.only_starts;
  moves = record {
    same_rules = h.moves.same_rules ∙ g.moves.same_rules;
    same_packets = IsPermutation-trans _ _ _ h.moves.same_packets g.moves.same_packets;
    same_rooms = rooms_trans first.rooms second.rooms third.rooms g.moves.same_rooms h.moves.same_rooms;
    same_submitted = h.moves.same_submitted ∙ g.moves.same_submitted;
    same_most = h.moves.same_most ∙ g.moves.same_most;
    same_places = h.moves.same_places ∙ g.moves.same_places;
    run = subst (λ ls. Run first.rules first.state ls third.state) (sym (map-append as_label g.starts h.starts))
        (Run-append first.rules first.state (map as_label g.starts) second.state (map as_label h.starts) third.state
        g.moves.run (subst (λ r. Run r second.state (map as_label h.starts) third.state) g.moves.same_rules
        h.moves.run));
    adapter = moves_joined first.adapter g.starts second.adapter h.starts third.adapter g.moves.adapter
        h.moves.adapter;
  };
}

-- THE STEP, AS ITS CALLS SAY IT

module _ (stack_size : ℕ) (v : DeviceView) (b : TableView) (held : Held) (b1 : TableView) (irp : Irp) (result : Bool)
    (k : FilterKept stack_size v b) (is : result ≡ (not b.paused && not b.removing && nat_lt b.below b.window))
    (yes' : result ≡ true) (lets : LetsGo b held b1)
    (given : irp ≡ with_cancel_routine held.routine held.irp.value) where
  may : IsFalse b.paused × IsFalse b.removing × (b.below < b.window)
  may = may_go b.paused b.removing b.below b.window result is yes'

  pub step_may : MaySend stack_size v irp held.room.spot
  step_may = subst (λ (x : Irp). MaySend stack_size v x held.room.spot) (sym given)
      (may_send stack_size v b k may.0 may.1 may.2 lets.spot held lets.rest lets.is_front)

  pub step_window : b1.below < b1.window
  step_window = subst (λ (x : TableView). x.below < x.window) (sym lets.after) may.2

  pub step_does : (v' : DeviceView) (b' : TableView) → Sends v irp held.room.spot v' → IsOrderly v'
      → b' ≡ record b1 { below = b1.below + 1 } → HasReleased stack_size v b v' b'
  step_does v' b' sends ordered notes =
      has_released stack_size v b v' b1 b' held k may.0 may.1 may.2 lets
      (subst (λ (x : Irp). Sends v x held.room.spot v') given sends) ordered notes
