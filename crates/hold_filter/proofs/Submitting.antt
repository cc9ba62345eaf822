-- A packet is taken in: it is queued last, or goes below at once.
use Rattle.hold_filter.proofs.Common.{◌≡◌, ◌<◌, ◌≤◌, inl, inr, ℕ, ◌+◌, Bool, true, false, List, [], ◌∷◌, ◌++◌, Some, None, refl, sym, subst, ap, ◌∙◌, arith, map, length, length-append, cases_lt, nat_tests, All-nil, All-cons, All-head, All-tail, All-push, All-weaker, Contains-append_right, IsPermutation-refl, IsPermutation-sym, IsPermutation-trans, IsPermutation-map, IsPermutation-middle, IsPermutation-append_right, All-permutation, Contains-permutation, Box, Irp, ClientRequest, Request, as_client, OpenRequest, IsSame, Opens, new_request, IsGiven, framed, with_window, IsAbove, HasLowerNumber, IsSame-reordered, IsSame-trans, AreDistinct-Admits, Opens-held, IsVacant, Room, DeviceView, Packet, packet_of, sent_bytes, room_at, request_at, whole_for, IsReady, IsOrderly, AsksInLocation, Carries, Submits, StaysOpen, SetsRoom, Held, TableView, packet_in, here, held_with, IsCovered, TakesIn, LetsGo, counted, request_in, packets_of, packet_below, packet_here, without, open_here, are_late, requests_here, frame_of, state_of, view_of, MaySend, Sends, Releases, NoneMayGo, Spares, IsBefore, AreInTurn, IsFrom, IsAsked, IsAtOwn, CanGo, EntryCanGo, FilterKept, IsInHand, stack_over, carries_bytes}
use Rattle.std.specs.Prelude.{All, Contains, IsPermutation, IsFalse, ◌||◌, ◌&&◌, not, nat_lt}
use Rattle.hold_filter.proofs.Lists.{All-first, All-second, All-from_map}
use Rattle.hold_filter.proofs.Here.{last_first}
use Rattle.hold_filter.proofs.Sizing.{not_refused, carries_below}
use Rattle.hold_filter.proofs.Locations.{asks_with, asks_request}
use Rattle.hold_filter.proofs.Moving.{in_hand}
use Rattle.hold_filter.proofs.Rooms.{IsOff, without_off, off_shown, sets_in, sets_same, reordered, rooms_refl}
use Rattle.hold_filter.proofs.Spots.{kept_in}
use Rattle.hold_filter.proofs.Staying.{all_there, others_stay, spares_same}
use Rattle.hold_filter.proofs.Releasing.{HasReleased, may_go, none_may, as_many, releases_none, step_may}
use Rattle.hold_filter.proofs.Releasing.{step_window, step_does}

-- one location more than below, as it was asked
over_is : (locations stack : ℕ) → 0 < locations → locations + stack_over stack ≤ 5 → locations + (1 + stack) ≤ 5
over_is locations stack some h = elim (cases_lt stack 5) [ inl low ↦ by_low low | inr high ↦ by_high high ]
  where
    by_low : stack < 5 → locations + (1 + stack) ≤ 5
    by_low low = let e : nat_lt stack 5 ≡ true = grind (arith, nat_tests) in let o : stack_over stack ≡ stack + 1 =
        rw e refl in omega arith

    by_high : 5 ≤ stack → locations + (1 + stack) ≤ 5
    by_high high = let e : nat_lt stack 5 ≡ false = grind (arith, nat_tests) in let o : stack_over stack ≡ stack =
        rw e refl in absurd (omega arith)

-- each was submitted before the last
turn_push : (held : List (ℕ × Held)) (last : ℕ × Held) → All (λ e. IsBefore e last) held → AreInTurn held
    → AreInTurn (held ++ last ∷ [])
turn_push [] last before h = (All-nil (IsBefore last), tt)
turn_push (e ∷ held) last before h = (
  All-push (IsBefore e) held last h.0 (All-head (λ x. IsBefore x last) e held before),
  turn_push held last
      (All-tail (λ x. IsBefore x last) e held before) h.1,
)

-- no entry stands at a spot that no packet has
pub vacant_of : (spot : ℕ) (es : List (ℕ × Held)) → All IsAtOwn es → All (IsOff spot) (map packet_in es)
    → IsVacant spot es
vacant_of spot [] own off = tt
vacant_of spot (e ∷ es) own off = (
  (λ same. All-head (IsOff spot) e.1 (map packet_in es) off (sym (All-head IsAtOwn e es own) ∙ same)),
  vacant_of spot es (All-tail IsAtOwn e es own) (All-tail (IsOff spot) e.1 (map packet_in es) off),
)

-- what the filter asks of whoever submits
pub record MayTakeIn (stack_size : ℕ) (v : DeviceView) (b : TableView) (irp : Irp) (spot : ℕ) : Type 0 where
  pub ready : IsReady (without v.rooms (here b)) spot
  pub not_removing : IsFalse v.state.removing
  pub number : b.last_number + 1 ≤ irp.number
  pub few : b.submitted < v.most
  pub own_location : AsksInLocation false (request_at (without v.rooms (here b)) spot) irp
  pub locations : length irp.locations.items + stack_over stack_size ≤ 5
  pub not_cancelled : IsFalse irp.cancelled
  pub carries : Carries false (with_window (Some b.window) v.rules) (request_at (without v.rooms (here b)) spot)
      irp.payload

module _ (stack_size : ℕ) (v : DeviceView) (b : TableView) (irp : Box Irp) (room : Room) (k : FilterKept stack_size v b)
    (m : MayTakeIn stack_size v b irp.value room.spot) where
  abbrev asked : Request
  asked = request_at (without v.rooms (here b)) room.spot

  -- it asks for the request of its room
  asks_own : request_in irp.value ≡ asked
  asks_own = asks_request asked irp.value m.own_location

  pub off : All (IsOff room.spot) (here b)
  off = off_shown v.rooms (here b) room.spot (whole_for asked) m.ready

  room_shown : room_at v.rooms room.spot ≡ Some (whole_for (request_in irp.value))
  room_shown = sym (without_off v.rooms (here b) room.spot off) ∙ m.ready
      ∙ ap (λ (q : Request). Some (whole_for q)) (sym asks_own)

  pub covered : IsCovered b.places room.spot
  covered = k.rooms.covered room.spot _ room_shown

  pub vacant : IsVacant room.spot b.held
  vacant = vacant_of room.spot b.held k.rooms.held_own
      (All-first (IsOff room.spot) (map packet_in b.held) (map packet_in b.ended) off)

  own_location : AsksInLocation false (request_in irp.value) irp.value
  own_location = subst (λ (q : Request). AsksInLocation false q irp.value) (sym asks_own) m.own_location

  carries : Carries false v.rules (request_in irp.value) irp.value.payload
  carries = subst (λ (q : Request). Carries false v.rules q irp.value.payload) (sym asks_own)
      (carries_below v.rules (Some b.window) asked irp.value.payload m.carries)

  abbrev now : Held
  now = held_with irp room

  abbrev pub books_taken : TableView
  books_taken = record b {
    held = b.held ++ (room.spot, held_with irp room) ∷ [];
    last_number =
        irp.value.number;
    submitted = b.submitted + 1;
  }

  abbrev pub client : ClientRequest
  client = as_client v.rules (request_in irp.value) (sent_bytes (request_in irp.value).kind irp.value.payload)

  here_last : IsPermutation (here books_taken) (now ∷ here b)
  here_last = last_first b.held room.spot now (map packet_in b.ended)

  staying : IsFalse b.removing
  staying = k.removing ∙ m.not_removing

  asked_now : IsAsked v.rules now
  asked_now = k.rooms.bounded room.spot _ room_shown

  opened_as : open_here v.rules (are_late b) now ≡ new_request (with_window (Some b.window) v.rules)
      (state_of v b) irp.value.number client
  opened_as =
      ap (λ (c : Bool). record (open_here v.rules (are_late b) now) { cancelled = c }) m.not_cancelled
      ∙ ap (λ (l : Bool). record
      (new_request (with_window (Some b.window) v.rules) (state_of v b) irp.value.number client) { late = l })
      (late_is b.paused b.removing staying)
    where
      late_is : (paused removing : Bool) → removing ≡ false → (paused || removing) ≡ paused
      late_is true removing e = refl
      late_is false removing e = e

  same_shown : IsSame (state_of v books_taken)
      (framed (record (frame_of v.rules b) {
        held = new_request (with_window (Some b.window) v.rules) (state_of v b) irp.value.number
            client ∷ requests_here
            v.rules b;
        next_request = irp.value.number + 1;
      }) v.state)
  same_shown =
      let p : IsPermutation (requests_here v.rules books_taken)
      (open_here v.rules (are_late b) now ∷ requests_here v.rules b) =
      IsPermutation-map (open_here v.rules (are_late b)) _ _ here_last in
      let q : IsPermutation (requests_here v.rules books_taken)
      (new_request (with_window (Some b.window) v.rules) (state_of v b) irp.value.number client ∷ requests_here
      v.rules b) =
      subst (λ (o : OpenRequest). IsPermutation (requests_here v.rules books_taken) (o ∷ requests_here v.rules b))
      opened_as p in
      IsSame-reordered (state_of v books_taken) _ _ _ _ (IsPermutation-append_right v.state.requests _ _ q)
      (IsPermutation-refl _)

  pub opens : Opens (with_window (Some b.window) v.rules) (state_of v b) irp.value.number client
      (state_of v books_taken)
  opens =
      let h : Opens (with_window (Some b.window) v.rules) (state_of v b) irp.value.number client _ =
      Opens-held (frame_of v.rules b) (with_window (Some b.window) v.rules) v.state irp.value.number client m.number
      (not_refused v.rules (request_in irp.value) asked_now
      (sent_bytes (request_in irp.value).kind irp.value.payload)
      (state_of v b) k.ordered.uncounted m.not_removing)
      (carries_bytes false v.rules (request_in irp.value) irp.value.payload carries) in
      record {
        new_number = h.new_number;
        not_refused = h.not_refused;
        carries = h.carries;
        after =
            IsSame-trans _ _ _ same_shown h.after;
      }

  pub packets_taken : IsPermutation (packets_of v books_taken) (packet_of irp.value room.spot ∷ packets_of v b)
  packets_taken =
      IsPermutation-trans _ _ _
      (IsPermutation-append_right (map packet_below v.packets) _ _ (IsPermutation-map packet_here _ _ here_last))
      (IsPermutation-middle (map packet_below v.packets) (packet_of irp.value room.spot) (map packet_here (here b)))

  -- the spot is no longer reserved in what is shown
  pub room_taken : SetsRoom (without v.rooms (here b)) room.spot (Some (whole_for asked)) None
      (without v.rooms (here books_taken))
  room_taken =
      sets_same _ _ _ _ room.spot _ None (rooms_refl (without v.rooms (here b)))
      (reordered v.rooms (now ∷ here b) (here books_taken) (IsPermutation-sym _ _ here_last))
      (sets_in v.rooms now (here b) (Some (whole_for asked))
      (sym (without_off v.rooms (here b) room.spot off) ∙ m.ready) off)

  -- WHAT IT KEEPS

  given_here : All (λ (e : ℕ × Held). IsBefore e (room.spot, now)) b.held
  given_here =
      let given : All (IsGiven (b.last_number + 1)) (requests_here v.rules b) =
      All-second (IsGiven (b.last_number + 1)) v.state.requests (requests_here v.rules b) k.distinct.given in
      let all : All (λ (h : Held). h.irp.value.number < b.last_number + 1) (here b) =
      All-from_map (IsGiven (b.last_number + 1)) (open_here v.rules (are_late b)) (here b) given in
      let held : All (λ (h : Held). h.irp.value.number < b.last_number + 1) (map packet_in b.held) =
      All-first (λ (h : Held). h.irp.value.number < b.last_number + 1) (map packet_in b.held)
      (map packet_in b.ended) all in
      All-weaker (λ (e : ℕ × Held). e.1.irp.value.number < b.last_number + 1)
      (λ (e : ℕ × Held). IsBefore e (room.spot, now)) (λ e low. let n = m.number in omega arith) b.held
      (All-from_map (λ (h : Held). h.irp.value.number < b.last_number + 1) packet_in b.held held)

  above_all : All (IsAbove v.state.requests) (requests_here v.rules books_taken)
  above_all =
      All-permutation (IsAbove v.state.requests) _ _
      (IsPermutation-sym _ _ (IsPermutation-map (open_here v.rules (are_late b)) _ _ here_last))
      (All-cons (IsAbove v.state.requests) (open_here v.rules (are_late b) now) (requests_here v.rules b)
      (All-weaker (IsGiven v.state.next_request) (HasLowerNumber (open_here v.rules (are_late b) now))
      (λ o low. let n = m.number in let x = k.next_below in omega arith) v.state.requests k.ordered.distinct.given)
      k.holds.above)

  can_go_now : CanGo stack_size v.rules now
  can_go_now = record {
    asks = asks_with (request_in irp.value) irp.value _ own_location;
    locations = over_is (length irp.value.locations.items) stack_size
        (let n = ap length m.own_location.is_own in
        let l = length-append m.own_location.higher (m.own_location.own ∷ []) in omega arith) m.locations;
    carries = carries;
    not_cancelled = m.not_cancelled;
  }

  pub kept_taken : FilterKept stack_size v books_taken
  kept_taken =
      let l = length-append b.held ((room.spot, now) ∷ []) in
      record {
        below = k.below;
        ordered = k.ordered;
        rooms = kept_in v.rules v.rooms v.packets b.held b.ended b.places k.rooms now room_shown off;
        asked = All-permutation (IsAsked v.rules) _ _ (IsPermutation-sym _ _ here_last)
            (All-cons (IsAsked v.rules) now (here b) asked_now k.asked);
        asked_below = k.asked_below;
        can_go = All-push (EntryCanGo stack_size v.rules) b.held (room.spot, now) k.can_go can_go_now;
        cancelled = k.cancelled;
        whole = k.whole;
        in_turn = turn_push b.held (room.spot, now) given_here k.in_turn;
        holds = record {
          above = above_all;
          timely = k.holds.timely;
          not_paused = k.holds.not_paused;
          within =
              k.holds.within;
        };
        distinct = AreDistinct-Admits (with_window (Some b.window) v.rules) (state_of v b) irp.value.number client
            None
            (state_of v books_taken) m.number k.distinct opens;
        counted = k.counted;
        passed = k.passed;
        next_below = let n = m.number in let x = k.next_below in omega arith;
        later = All-push (IsFrom v.state.next_request) b.held (room.spot, now) k.later
            (let n = m.number in let x = k.next_below in omega arith);
        some_window = k.some_window;
        removing = k.removing;
        going = k.going;
        full = k.full;
        submitted = let c = k.submitted in omega arith;
        few = let c = m.few in omega arith;
      }

  -- all that was open stays open
  stays : (v' : DeviceView) (b' : TableView) → NoneMayGo v b → Spares v books_taken v' b'
      → All (StaysOpen (state_of v' b')) (state_of v b).requests
  stays v' b' none spares = others_stay v v' b books_taken b' spares refl refl refl
      (λ going staying full. λ going' staying'. inr full) (all_there _ _ more_taken) none
    where
      open_as : Held → OpenRequest
      open_as x = open_here v.rules (are_late b) x

      more_taken : (o : OpenRequest) → Contains (map open_as (here b)) o
          → Contains (map open_as (here books_taken)) o
      more_taken o there =
          let first : IsPermutation (map open_as (here books_taken)) (open_as now ∷ map open_as (here b)) =
          IsPermutation-map open_as _ _ here_last in
          Contains-permutation _ _ o (IsPermutation-sym _ _ first)
          (Contains-append_right (open_as now ∷ []) (map open_as (here b)) o there)

  pub submits : (v' : DeviceView) (b' : TableView) → NoneMayGo v b → Spares v books_taken v' b'
      → Releases (view_of v books_taken) (view_of v' b')
      → Submits (view_of v b) (packet_of irp.value room.spot) asked irp.value.payload (view_of v' b')
  submits v' b' none spares r = record {
    room = sets_same _ _ _ _ room.spot _ None (rooms_refl (without v.rooms (here b))) r.moves.same_rooms room_taken;
    opened = state_of v books_taken;
    starts = r.starts;
    opens = subst (λ (q : Request). Opens (with_window (Some b.window) v.rules) (state_of v b) irp.value.number
        (as_client v.rules q (sent_bytes q.kind irp.value.payload)) (state_of v books_taken)) asks_own opens;
    only_starts = r.only_starts;
    moves = record {
      same_rules = r.moves.same_rules;
      same_packets = IsPermutation-trans _ _ _ r.moves.same_packets packets_taken;
      same_rooms = rooms_refl (without v'.rooms (here b'));
      same_submitted = r.moves.same_submitted;
      same_most = r.moves.same_most;
      same_places = r.moves.same_places;
      run = r.moves.run;
      adapter = r.moves.adapter;
    };
    others_stay = stays v' b' none spares;
  }

-- AS THE CALLS SAY IT

-- what is shown, and that the filter is in order
pub record HasSubmitted (stack_size : ℕ) (old : DeviceView) (packet : Packet) (request : Request) (irp : Irp)
    (v' : DeviceView) (b' : TableView) : Type 0 where
  pub hand : IsInHand stack_size v' b'
  pub submits : Submits old packet request irp.payload (view_of v' b')

module _ (stack_size : ℕ) (v : DeviceView) (b : TableView) (irp : Box Irp) (room : Room) (k : IsInHand stack_size v b)
    (m : MayTakeIn stack_size v b irp.value room.spot) (b1 : TableView) (counts : b1 ≡ counted irp.value.number b)
    (result : Bool)
    (is : result ≡ (not b1.paused && not b1.removing && nat_lt b1.below b1.window)) where
  tested : result ≡ (not b.paused && not b.removing && nat_lt b.below b.window)
  tested = subst (λ (x : TableView). result ≡ (not x.paused && not x.removing && nat_lt x.below x.window)) counts is

  -- THE PACKET IS HELD

  pub may_hold : IsCovered b1.places room.spot × IsVacant room.spot b1.held
  may_hold = subst (λ (x : TableView). IsCovered x.places room.spot × IsVacant room.spot x.held) (sym counts)
      (covered stack_size v b irp room k.kept m, vacant stack_size v b irp room k.kept m)

  taken_is : (b' : TableView) → TakesIn b1 irp room b' → b' ≡ books_taken stack_size v b irp room k.kept m
  taken_is b' t = t ∙ ap (λ (x : TableView). record x { held = x.held ++ (room.spot, held_with irp room) ∷ [] }) counts

  pub has_held : result ≡ false → (b' : TableView) → TakesIn b1 irp room b'
      → HasSubmitted stack_size (view_of v b) (packet_of irp.value room.spot)
      (request_at (without v.rooms (here b)) room.spot) irp.value v b'
  has_held no' b' t =
      let now : FilterKept stack_size v (books_taken stack_size v b irp room k.kept m) =
      kept_taken stack_size v b irp room k.kept m in
      let none : NoneMayGo v (books_taken stack_size v b irp room k.kept m) =
      none_may stack_size v (books_taken stack_size v b irp room k.kept m) now result tested no' in
      subst (HasSubmitted stack_size (view_of v b) (packet_of irp.value room.spot)
      (request_at (without v.rooms (here b)) room.spot) irp.value v) (sym (taken_is b' t)) (record {
        hand = in_hand stack_size v (books_taken stack_size v b irp room k.kept m) now none;
        submits = submits stack_size v b irp room k.kept m v (books_taken stack_size v b irp room k.kept m)
            k.released
            (spares_same v (books_taken stack_size v b irp room k.kept m))
            (releases_none (view_of v (books_taken stack_size v b irp room k.kept m)));
      })

  -- IT GOES BELOW AT ONCE

  module _ (yes' : result ≡ true) where
    may : IsFalse b.paused × IsFalse b.removing × (b.below < b.window)
    may = may_go b.paused b.removing b.below b.window result tested yes'

    none_held : b.held ≡ []
    none_held = elim (k.released may.0 may.1) [
      | inl none ↦ none
      | inr full ↦ let n = as_many stack_size v b k.kept in
          let w = may.2 in absurd (omega arith)
    ]

    -- as if it had been held and left
    lets : LetsGo (books_taken stack_size v b irp room k.kept m) (held_with irp room) b1
    lets = record {
      spot = room.spot;
      rest = [];
      is_front = ap (λ (es : List (ℕ × Held)). es ++ (room.spot, held_with irp room) ∷ []) none_held;
      after = counts ∙ ap (λ (es : List (ℕ × Held)). record (counted irp.value.number b) { held = es }) none_held;
    }

    pub may_send_now : MaySend stack_size v irp.value room.spot
    may_send_now = step_may stack_size v (books_taken stack_size v b irp room k.kept m)
        (held_with irp room) b1 irp.value result (kept_taken stack_size v b irp room k.kept m) tested yes' lets refl

    pub window_now : b1.below < b1.window
    window_now = step_window stack_size v (books_taken stack_size v b irp room k.kept m)
        (held_with irp room) b1 irp.value result (kept_taken stack_size v b irp room k.kept m) tested yes' lets refl

    pub has_gone : (v' : DeviceView) (b' : TableView) → Sends v irp.value room.spot v' → IsOrderly v'
        → b' ≡ record b1 { below = b1.below + 1 }
        → HasSubmitted stack_size (view_of v b) (packet_of irp.value room.spot)
        (request_at (without v.rooms (here b)) room.spot) irp.value v' b'
    has_gone v' b' sends ordered notes =
        let went : HasReleased stack_size v (books_taken stack_size v b irp room k.kept m) v' b' =
        step_does stack_size v (books_taken stack_size v b irp room k.kept m) (held_with irp room) b1 irp.value
        result
        (kept_taken stack_size v b irp room k.kept m) tested yes' lets refl v' b' sends ordered notes in
        let none : b'.held ≡ [] = ap (λ (x : TableView). x.held) notes ∙ ap (λ (x : TableView). x.held) counts
        ∙ none_held in
        record {
          hand = in_hand stack_size v' b' went.kept (λ going staying. inl none);
          submits = submits stack_size v b irp room k.kept m v' b' k.released went.spares went.releases;
        }
