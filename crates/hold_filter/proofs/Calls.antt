-- What each call is asked and gives, over what was shown.
use Rattle.hold_filter.proofs.Common.{in_all, ◌≡◌, ◌<◌, ◌≤◌, inl, inr, ℕ, ◌+◌, false, Option, Some, None, refl, sym, subst, ap, ◌∙◌, length, List, [], map, All, IsFalse, cases_eq, All-append, All-map, IsPermutation-refl, Irp, Request, Rules, as_client, with_window, AdapterView, ReservesMore, DeviceView, Reserved, IsBounded, IsOrderly, IsReady, IsReserved, AsksInLocation, Carries, request_at, room_at, whole_for, HasOtherSpot, SameRooms, SetsRoom, Reserves, ReservesSpot, ReservesNone, ReservesNear, Frees, Limits, TableView, here, IsCovered, Covers, packet_below, packet_here, packets_of, without, view_of, RoomsKept, IsInHand, IsAdmitted, stack_over}
use Rattle.hold_filter.proofs.Sizing.{admitted}
use Rattle.hold_filter.proofs.Orderly.{some_bytes}
use Rattle.hold_filter.proofs.Moving.{in_hand}
use Rattle.hold_filter.proofs.Rooms.{IsOff, off_shown, without_off, sets_beside, same_without}
use Rattle.hold_filter.proofs.Spots.{kept_more, kept_less, kept_wider, kept_same, off_all}
use Rattle.hold_filter.proofs.Submitting.{MayTakeIn}

-- what a submit is asked
pub may_take_in : (stack_size : ℕ) (v : DeviceView) (b : TableView) (k : IsInHand stack_size v b) (w : DeviceView)
    (irp : Irp) (spot : ℕ) → view_of v b ≡ w → IsReady w.rooms spot → IsFalse w.state.removing
    → w.state.next_request ≤ irp.number → w.submitted < w.most
    → AsksInLocation false (request_at w.rooms spot) irp → length irp.locations.items + stack_over stack_size ≤ 5
    → IsFalse irp.cancelled → Carries false w.rules (request_at w.rooms spot) irp.payload
    → MayTakeIn stack_size v b irp spot
may_take_in stack_size v b k w irp spot shown ready staying number few own locations timely carries =
    subst (λ (x : DeviceView). IsReady x.rooms spot → IsFalse x.state.removing → x.state.next_request ≤ irp.number
    → x.submitted < x.most
    → AsksInLocation false (request_at x.rooms spot) irp
    → Carries false x.rules (request_at x.rooms spot) irp.payload
    → MayTakeIn stack_size v b irp spot) shown
    (λ ready' staying' number' few' own' carries'. record {
      ready = ready';
      not_removing = staying';
      number =
          number';
      few = few';
      own_location = own';
      locations = locations;
      not_cancelled = timely;
      carries = carries';
    })
    ready staying number few own carries

-- ROOMS

-- a request in the filter's bounds is in those of the device below
bounded_below : (rules : Rules) (window : ℕ) (r : Request) → IsBounded (with_window (Some window) rules) r
    → IsBounded rules r
bounded_below rules window r b =
    record { known = b.known; some = b.some; none = b.none; inside = b.inside; short = b.short }

pub bounds : (v : DeviceView) (b : TableView) (w : DeviceView) (r : Request) → view_of v b ≡ w → IsBounded w.rules r
    → IsBounded v.rules r
bounds v b w r shown h =
    bounded_below v.rules b.window r (subst (λ (x : DeviceView). IsBounded x.rules r) (sym shown) h)

-- what the adapter reserves below it does for what is shown
pub near_above : (v v' : DeviceView) (b b' : TableView) (w : DeviceView) (r : Request) → view_of v b ≡ w
    → ReservesNear v r v' → ReservesNear w r (view_of v' b')
near_above v v' b b' w r shown near = subst (λ (x : DeviceView). ReservesNear x r (view_of v' b')) shown near

-- what is reserved in what is shown is reserved below
pub reserved_below : (v : DeviceView) (b : TableView) (w : DeviceView) (spot : ℕ) → view_of v b ≡ w
    → IsReserved w.rooms spot → IsReserved v.rooms spot
reserved_below v b w spot shown h =
    let is : room_at (without v.rooms (here b)) spot ≡ Some h.0 =
    ap (λ (x : DeviceView). room_at x.rooms spot) shown
    ∙ h.1 in
    (h.0, sym (without_off v.rooms (here b) spot (off_shown v.rooms (here b) spot h.0 is)) ∙ is)

-- the device below with other rooms, and the filter in order
with_rooms : (stack_size : ℕ) (v : DeviceView) (b : TableView) (places : Limits) (rooms : List (Option Reserved))
    (held : ℕ) (adapter : AdapterView) → IsOrderly (record v { rooms = rooms; places = held; adapter = adapter })
    → RoomsKept v.rules rooms v.packets b.held b.ended places
    → IsInHand stack_size v b
    → IsInHand stack_size (record v { rooms = rooms; places = held; adapter = adapter }) (record b { places = places })
with_rooms stack_size v b places rooms held adapter ordered kept k =
    in_hand stack_size (record v { rooms = rooms; places = held; adapter = adapter }) (record b { places = places }) (record {
      below = record {
        own_location = k.kept.below.own_location;
        no_window = k.kept.below.no_window;
        most =
            k.kept.below.most;
      };
      ordered = ordered;
      rooms = kept;
      asked = k.kept.asked;
      asked_below = k.kept.asked_below;
      can_go = k.kept.can_go;
      cancelled = k.kept.cancelled;
      whole = k.kept.whole;
      in_turn = k.kept.in_turn;
      holds = k.kept.holds;
      distinct = k.kept.distinct;
      counted = k.kept.counted;
      passed = k.kept.passed;
      next_below = k.kept.next_below;
      later = k.kept.later;
      some_window = k.kept.some_window;
      removing = k.kept.removing;
      going = k.kept.going;
      full = k.kept.full;
      submitted = k.kept.submitted;
      few = k.kept.few;
    }) k.released

-- a room is given back
pub freed : (stack_size : ℕ) (v : DeviceView) (b : TableView) (w : DeviceView) (v' : DeviceView) (spot : ℕ)
    → view_of v b ≡ w → IsReserved w.rooms spot → IsInHand stack_size v b → IsOrderly v' → Frees v spot v'
    → IsInHand stack_size v' b × Frees w spot (view_of v' b)
freed stack_size v b w v' spot shown h k ordered f =
    let is : room_at (without v.rooms (here b)) spot ≡ Some h.0 =
    ap (λ (x : DeviceView). room_at x.rooms spot) shown
    ∙ h.1 in
    let off = off_shown v.rooms (here b) spot h.0 is in
    let ordered' : IsOrderly (record v { rooms = v'.rooms }) = subst IsOrderly f.same ordered in
    let kept : RoomsKept v.rules v'.rooms v.packets b.held b.ended b.places =
    kept_less v.rules v.rooms v.packets b.held b.ended b.places k.kept.rooms v'.rooms v.packets spot
    (Some f.reserved) f.room off k.kept.rooms.taken in
    let frees : Frees (view_of v b) spot (view_of (record v { rooms = v'.rooms }) b) =
    record {
      reserved = f.reserved;
      room = sets_beside v.rooms v'.rooms (here b) spot (Some f.reserved) None off f.room;
      same = refl;
    } in (
      subst (λ (x : DeviceView). IsInHand stack_size x b) (sym f.same)
          (with_rooms stack_size v b b.places v'.rooms v.places v.adapter ordered' kept k),
      subst (λ (x : DeviceView). Frees x spot (view_of v' b)) shown
          (subst (λ (x : DeviceView). Frees (view_of v b) spot (view_of x b)) (sym f.same) frees),
    )

-- what a reservation below leaves of the view
reserves_is : (v v' : DeviceView) → Reserves v v' → v' ≡ record v { rooms = v'.rooms; places = v'.places; adapter = v'.adapter }
reserves_is v v' h = h.same ∙ ap (λ (a : AdapterView). record v { rooms = v'.rooms; places = v'.places; adapter = a })
    (sym (ap (λ (x : DeviceView). x.adapter) h.same))

reserves_shown : (v v' : DeviceView) (b b' : TableView) (places : Limits) → b' ≡ record b { places = places }
    → Reserves v v' → Reserves (view_of v b) (view_of v' b')
reserves_shown v v' b b' places after h =
    let e : v' ≡ record v { rooms = v'.rooms; places = v'.places; adapter = v'.adapter } = reserves_is v v' h in
    subst (λ (x : DeviceView). Reserves (view_of v b) (view_of x b')) (sym e)
    (subst (λ (y : TableView). Reserves (view_of v b) (view_of (record v { rooms = v'.rooms; places = v'.places; adapter = v'.adapter }) y))
    (sym after)
    (record {
      same = ap (λ (a : AdapterView). record (view_of v b) { rooms = without v'.rooms (here b); places = v'.places + in_all places; adapter = a })
          (ap (λ (x : DeviceView). x.adapter) h.same);
      adapter = h.adapter;
    }))

hand_rooms : (stack_size : ℕ) (v v' : DeviceView) (b b' : TableView) (places : Limits)
    → b' ≡ record b { places = places }
    → Reserves v v' → IsOrderly v' → RoomsKept v.rules v'.rooms v.packets b.held b.ended places
    → IsInHand stack_size v b → IsInHand stack_size v' b'
hand_rooms stack_size v v' b b' places after h ordered kept k =
    let e : v' ≡ record v { rooms = v'.rooms; places = v'.places; adapter = v'.adapter } = reserves_is v v' h in
    subst (λ (x : DeviceView). IsInHand stack_size x b') (sym e)
    (subst (λ (y : TableView). IsInHand stack_size (record v { rooms = v'.rooms; places = v'.places; adapter = v'.adapter }) y) (sym after)
    (with_rooms stack_size v b places v'.rooms v'.places v'.adapter (subst IsOrderly e ordered) kept k))

module _ (stack_size : ℕ) (v : DeviceView) (b : TableView) (k : IsInHand stack_size v b) (w : DeviceView)
    (shown : view_of v b ≡ w) where
  -- memory was refused below
  pub refused_below : (v' : DeviceView) → IsOrderly v' → ReservesNone v v'
      → IsInHand stack_size v' b × ReservesNone w (view_of v' b)
  refused_below v' ordered h = (
    hand_rooms stack_size v v' b b b.places refl h.reserves ordered
        (kept_same v.rules v.rooms v.packets b.held b.ended b.places k.kept.rooms v'.rooms v.packets h.room
        (IsPermutation-refl _)) k,
    subst (λ (x : DeviceView). ReservesNone x (view_of v' b)) shown
        (record {
          reserves = reserves_shown v v' b b b.places refl h.reserves;
          room =
              same_without v.rooms v'.rooms (here b) h.room;
        }),
  )

  module _ (spot : ℕ) (q : Request) (v1 : DeviceView) (bounded : IsBounded w.rules q) (h : ReservesSpot v spot q v1)
      (b1 : TableView) (covers : Covers b spot b1) where
    fits : IsAdmitted v.rules (as_client v.rules q [])
    fits = admitted v.rules q (some_bytes stack_size v b k.kept) (bounds v b w q shown bounded)

    wider : RoomsKept v.rules v.rooms v.packets b.held b.ended b1.places
    wider = kept_wider v.rules v.rooms v.packets b.held b.ended b.places k.kept.rooms b1.places covers.more_held
        covers.more_ended

    -- both have a place
    pub reserved : IsOrderly v1 → IsCovered b1.places spot
        → IsInHand stack_size v1 b1 × ReservesSpot w spot q (view_of v1 b1)
    reserved ordered covered = (
      hand_rooms stack_size v v1 b b1 b1.places covers.after h.reserves ordered
          (kept_more v.rules v.rooms v.packets b.held b.ended b1.places wider v1.rooms v.packets spot
          (whole_for q) h.room wider.taken fits covered) k,
      subst (λ (x : DeviceView). ReservesSpot x spot q (view_of v1 b1)) shown
          (record { reserves = reserves_shown v v1 b b1 b1.places covers.after h.reserves; apart = apart; room = room_shown }),
    )
      where
        others : All (IsOff spot) (here b)
        others = off_all v.rooms spot (here b) k.kept.rooms.reserved h.room.was

        apart : All (HasOtherSpot spot) (packets_of v b)
        apart =
            All-append (HasOtherSpot spot) (map packet_below v.packets) (map packet_here (here b))
            (All-map (HasOtherSpot spot) packet_below v.packets h.apart)
            (All-map (HasOtherSpot spot) packet_here (here b) others)

        room_shown : SetsRoom (without v.rooms (here b)) spot None (Some (whole_for q)) (without v1.rooms (here b1))
        room_shown =
            subst (λ (y : TableView). SetsRoom (without v.rooms (here b)) spot None (Some (whole_for q))
            (without v1.rooms (here y))) (sym covers.after)
            (sets_beside v.rooms v1.rooms (here b) spot None (Some (whole_for q)) others h.room)

    -- or the filter has none, and the room below was given back
    pub given_back : (v2 : DeviceView) → IsOrderly v2 → Frees v1 spot v2
        → IsInHand stack_size v2 b1 × ReservesNone w (view_of v2 b1)
    given_back v2 ordered f = (
      hand_rooms stack_size v v2 b b1 b1.places covers.after none ordered
          (kept_same v.rules v.rooms v.packets b.held b.ended b1.places wider v2.rooms v.packets same
          (IsPermutation-refl _)) k,
      subst (λ (x : DeviceView). ReservesNone x (view_of v2 b1)) shown
          (record { reserves = reserves_shown v v2 b b1 b1.places covers.after none; room = rooms_shown }),
    )
      where
        none : Reserves v v2
        none = record {
          same = f.same ∙ ap (λ (x : DeviceView). record x { rooms = v2.rooms }) h.reserves.same
              ∙ ap (λ (a : AdapterView). record v
              { rooms = v2.rooms; places = v1.places; adapter = record v.adapter { reserved = a.reserved } })
              (sym (ap (λ (x : DeviceView). x.adapter) f.same))
              ∙ ap (λ (n : ℕ). record v
              { rooms = v2.rooms; places = n; adapter = record v.adapter { reserved = v2.adapter.reserved } })
              (sym (ap (λ (x : DeviceView). x.places) f.same));
          adapter = subst (λ (a : AdapterView). ReservesMore v.adapter a)
              (sym (ap (λ (x : DeviceView). x.adapter) f.same)) h.reserves.adapter;
        }

        same : SameRooms v.rooms v2.rooms
        same at = elim (cases_eq at spot) [
          | inl e ↦ ap (room_at v2.rooms) e ∙ f.room.is ∙ sym h.room.was ∙ ap (room_at v.rooms) (sym e)
          | inr ne ↦ f.room.others at ne ∙ h.room.others at ne
        ]

        rooms_shown : SameRooms (without v.rooms (here b)) (without v2.rooms (here b1))
        rooms_shown = subst (λ (y : TableView). SameRooms (without v.rooms (here b)) (without v2.rooms (here y)))
            (sym covers.after) (same_without v.rooms v2.rooms (here b) same)

  -- the adapter is as it was, where that below is
  pub same_adapter : (v' : DeviceView) (b' : TableView) → v'.adapter ≡ v.adapter → (view_of v' b').adapter ≡ w.adapter
  same_adapter v' b' same = same ∙ ap (λ (x : DeviceView). x.adapter) shown
