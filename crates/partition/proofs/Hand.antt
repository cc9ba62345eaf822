-- What holds between the calls, after a call of the layer below.
use Rattle.std.proofs.Common.{◌≡◌, ◌≢◌, ◌⊎◌, inl, inr, ℕ, Bool, true, false, List, [], Option, Some, None, Result, refl, sym, ◌∙◌, ap, subst, get_or}
use Rattle.partition.proofs.Common.{◌+◌, Wanted, All, IsPermutation, MatchBool, cases_eq, IsPermutation-refl, IsPermutation-sym, All-permutation, All-map, Extent, CoversMoreNear, Completion, DeviceLabel, Entry, AdapterView, ReservesMore, Request, Rules, home, array_at, Cancels, DeviceView, Packet, Reserved, IsOrderly, IsOffRooms, IsBounded, IsReady, KeepsOutside, request_of, room_at, sectors_asked, whole_for, HasOtherSpot, SameRooms, SetsRoom, IsBeside, Reserves, ReservesSpot, ReservesNone, ReservesNear, Frees, BooksPiece, ActsOrFaults, ActsNot, Finishes, FinishesNot, Resets, CancelsIfOpen, CancelsAt, NoneToCancel, DrainsAll, PausesAll, ResumesAll, HandsUpNone, TakesLabel, ForgetsLabels, home_of_whole, rules_over, on_disk, IsWholeDisk, for_wanted, rooms_with, wanted_at, Notes, IsKept, IsNotedAt, IsOnDisk, IsWantedFor, packet_above, view_of, shown_of}
use Rattle.partition.proofs.Steps.{Keeps}
use Rattle.partition.proofs.Settled.{IsOrderly-over, disk_is}
use Rattle.partition.proofs.Moving.{GoesOn, ActsOver, acts_over, finishes_over, resets_over, cancels_over, cancels_at_over, drains_over, pauses_over, resumes_over, hands_up_none, goes_same}
use Rattle.partition.proofs.Rooms.{at_room, rooms_same, rooms_set, rooms_noted, rooms_alike, acts_up, books_up, finishes_up, resets_up, cancels_up, cancels_at_up, drains_up, pauses_up, resumes_up, none_up, label_up, forgets_up, orderly_up}

-- what a call that takes no packet in and hands none up leaves beside the machine
pub record StaysBeside (old new : DeviceView) : Type 0 where
  pub same_rooms : SameRooms old.rooms new.rooms
  pub same_packets : IsPermutation new.packets old.packets

pub beside_same : (old new : DeviceView) → new ≡ old → StaysBeside old new
beside_same old new e = subst (StaysBeside old) (sym e) (record { same_rooms = λ k. refl; same_packets = IsPermutation-refl _ })

pub beside_acts : (old new : DeviceView) (tag : ℕ) (done : Bool) → MatchBool done (ActsOrFaults old tag new) (ActsNot old tag new) → StaysBeside old new
beside_acts old new tag true h = record { same_rooms = h.moves.same_rooms; same_packets = h.moves.same_packets }
beside_acts old new tag false h = beside_same old new h.same

pub beside_adapter : (old new : DeviceView) (adapter : AdapterView) → new ≡ record old { adapter = adapter } → StaysBeside old new
beside_adapter old new adapter e = subst (StaysBeside old) (sym e) (record { same_rooms = λ k. refl; same_packets = IsPermutation-refl _ })

pub beside_finishes : (old new : DeviceView) (tag : ℕ) (done : Bool) → MatchBool done (Finishes old tag new) (FinishesNot old tag new) → StaysBeside old new
beside_finishes old new tag true h = record { same_rooms = h.moves.same_rooms; same_packets = h.moves.same_packets }
beside_finishes old new tag false h = beside_same old new h.same

pub beside_cancels : (old new : DeviceView) (number : ℕ) → CancelsIfOpen old number new → StaysBeside old new
beside_cancels old new number h = by h.one_of
  where
    by : (Cancels old.state number new.state × IsBeside old new) ⊎ (NoneToCancel old.state number × (new ≡ old)) → StaysBeside old new
    by (inl (c, beside)) = record { same_rooms = beside.same_rooms; same_packets = beside.same_packets }
    by (inr (none, same)) = beside_same old new same

pub beside_cancels_at : (old new : DeviceView) (spot number : ℕ) → CancelsAt old spot number new → StaysBeside old new
beside_cancels_at old new spot number h = by h.either
  where
    by : (Cancels old.state number new.state × IsBeside old new) ⊎ (new ≡ old) → StaysBeside old new
    by (inl (c, beside)) = record { same_rooms = beside.same_rooms; same_packets = beside.same_packets }
    by (inr same) = beside_same old new same

pub beside_label : (old new : DeviceView) (label : Option DeviceLabel) → TakesLabel old label new → StaysBeside old new
beside_label old new None h = beside_same old new h.1
beside_label old new (Some label) h = subst (StaysBeside old) (sym h.2) (record { same_rooms = λ k. refl; same_packets = IsPermutation-refl _ })

-- what holds after a call, by its rooms and its packets
pub kept_with : (locations_below : ℕ) (table : List Extent) (wanted wanted' : Wanted) (v v' : DeviceView)
    → IsKept locations_below table wanted v → GoesOn table v v' → IsOrderly v'
    → ((spot : ℕ) (reserved : Reserved) → room_at v'.rooms spot ≡ Some reserved → IsWantedFor (rules_over table v.rules) (wanted_at wanted' spot) reserved)
    → All (IsNotedAt wanted') v'.packets → IsKept locations_below table wanted' v'
kept_with locations_below table wanted wanted' v v' h goes orderly rooms noted = record {
  on_disk = goes.on_disk;
  some_location = h.some_location;
  below = orderly;
  rooms = λ spot reserved is.
      subst (λ (r : Rules). IsWantedFor (rules_over table r) (wanted_at wanted' spot) reserved) (sym goes.same_rules) (rooms spot reserved is);
  noted = noted;
  orderly = orderly_up wanted' (view_of table v') (IsOrderly-over table v' goes.on_disk orderly);
}

-- a call that leaves the rooms and the packets as they are
pub kept_after : (locations_below : ℕ) (table : List Extent) (wanted : Wanted) (v v' : DeviceView)
    → IsKept locations_below table wanted v → GoesOn table v v' → IsOrderly v' → StaysBeside v v' → IsKept locations_below table wanted v'
kept_after locations_below table wanted v v' h goes orderly beside =
    kept_with locations_below table wanted wanted v v' h goes orderly
    (λ spot reserved is. h.rooms spot reserved (sym (beside.same_rooms spot) ∙ is))
    (All-permutation (IsNotedAt wanted) _ _ (IsPermutation-sym _ _ beside.same_packets) h.noted)

-- the sectors of the disk are the adapter's
pub keeps_outside : (table : List Extent) (v v' : DeviceView) → IsOnDisk table v → IsOrderly v → IsOnDisk table v' → IsOrderly v'
    → Keeps table (array_at v.state.arrays 0) (array_at v'.state.arrays 0) → KeepsOutside table v.adapter v'.adapter
keeps_outside table v v' k o k' o' keeps =
    let before : array_at v.state.arrays 0 ≡ v.adapter.sectors =
    ap (λ arrays. array_at arrays 0) (disk_is v.rules v.state v.adapter k.whole o.read) in
    let after : array_at v'.state.arrays 0 ≡ v'.adapter.sectors =
    ap (λ arrays. array_at arrays 0) (disk_is v'.rules v'.state v'.adapter k'.whole o'.read) in
    (subst (λ xs. Keeps table xs v'.adapter.sectors) before (subst (λ ys. Keeps table (array_at v.state.arrays 0) ys) after keeps)).outside

-- EACH CALL

module _ (locations_below : ℕ) (table : List Extent) (wanted : Wanted) (v v' : DeviceView)
    (h : IsKept locations_below table wanted v) (orderly : IsOrderly v') where
  abbrev shown : DeviceView
  shown = shown_of table wanted v

  abbrev shown' : DeviceView
  shown' = shown_of table wanted v'

  abbrev IsKeptAfter : Type 0
  IsKeptAfter = IsKept locations_below table wanted v'

  after : GoesOn table v v' → StaysBeside v v' → IsKeptAfter
  after goes beside = kept_after locations_below table wanted v v' h goes orderly beside

  -- where nothing but the adapter changes
  goes_beside : (adapter : AdapterView) → v' ≡ record v { adapter = adapter } → GoesOn table v v'
  goes_beside adapter same =
      let on : IsOnDisk table v = h.on_disk in
      subst (GoesOn table v) (sym same) (record {
        on_disk = record { whole = on.whole; partitions = on.partitions; packets = on.packets; requests = on.requests; placed = on.placed };
        same_rules = refl;
      })

  pub acts_shown : (tag : ℕ) (done : Bool) → MatchBool done (ActsOrFaults v tag v') (ActsNot v tag v')
      → (MatchBool done (ActsOrFaults shown tag shown') (ActsNot shown tag shown') × KeepsOutside table v.adapter v'.adapter) × IsKeptAfter
  acts_shown tag done acts =
      let a : ActsOver table v v' h.on_disk h.below tag done = acts_over table v v' h.on_disk h.below orderly tag done acts in (
        (acts_up wanted (view_of table v) (view_of table v') tag done a.acts, keeps_outside table v v' h.on_disk h.below a.goes.on_disk orderly a.keeps),
        after a.goes (beside_acts v v' tag done acts),
      )

  pub books_shown : (tag piece : ℕ) (what : Result Entry Completion) → BooksPiece v tag piece what v'
      → BooksPiece shown tag piece what shown' × IsKeptAfter
  books_shown tag piece what books =
      let same : BooksPiece (view_of table v) tag piece what (view_of table v') =
      record { adapter = books.adapter; same = ap (λ (x : DeviceView). view_of table x) books.same } in
      (books_up wanted (view_of table v) (view_of table v') tag piece what same, after (goes_beside v'.adapter books.same) (beside_adapter v v' v'.adapter books.same))

  pub finishes_shown : (tag : ℕ) (done : Bool) → MatchBool done (Finishes v tag v') (FinishesNot v tag v')
      → MatchBool done (Finishes shown tag shown') (FinishesNot shown tag shown') × IsKeptAfter
  finishes_shown tag done finishes =
      let r = finishes_over table v v' h.on_disk h.below orderly tag done finishes in
      (finishes_up wanted (view_of table v) (view_of table v') tag done r.0, after r.1 (beside_finishes v v' tag done finishes))

  pub resets_shown : Resets v v' → Resets shown shown' × IsKeptAfter
  resets_shown resets =
      let r = resets_over table v v' h.on_disk h.below orderly resets in
      (resets_up wanted (view_of table v) (view_of table v') r.0, after r.1 (record { same_rooms = resets.moves.same_rooms; same_packets = resets.moves.same_packets }))

  pub cancels_shown : (number : ℕ) → CancelsIfOpen v number v' → CancelsIfOpen shown number shown' × IsKeptAfter
  cancels_shown number cancels =
      let r = cancels_over table v v' h.on_disk h.below orderly number cancels in
      (cancels_up wanted (view_of table v) (view_of table v') number r.0, after r.1 (beside_cancels v v' number cancels))

  pub cancels_at_shown : (spot number : ℕ) → CancelsAt v spot number v' → CancelsAt shown spot number shown' × IsKeptAfter
  cancels_at_shown spot number cancels =
      let r = cancels_at_over table v v' h.on_disk h.below orderly spot number cancels in
      (cancels_at_up wanted (view_of table v) (view_of table v') spot number r.0, after r.1 (beside_cancels_at v v' spot number cancels))

  pub drains_shown : DrainsAll v v' → DrainsAll shown shown' × IsKeptAfter
  drains_shown drains =
      let r = drains_over table v v' h.on_disk h.below orderly drains in
      (drains_up wanted (view_of table v) (view_of table v') r.0, after r.1 (record { same_rooms = drains.beside.same_rooms; same_packets = drains.beside.same_packets }))

  pub pauses_shown : PausesAll v v' → PausesAll shown shown' × IsKeptAfter
  pauses_shown pauses =
      let r = pauses_over table v v' h.on_disk h.below orderly pauses in
      (pauses_up wanted (view_of table v) (view_of table v') r.0, after r.1 (record { same_rooms = pauses.beside.same_rooms; same_packets = pauses.beside.same_packets }))

  pub resumes_shown : ResumesAll v v' → ResumesAll shown shown' × IsKeptAfter
  resumes_shown resumes =
      let r = resumes_over table v v' h.on_disk h.below orderly resumes in
      (resumes_up wanted (view_of table v) (view_of table v') r.0, after r.1 (record { same_rooms = resumes.moves.same_rooms; same_packets = resumes.moves.same_packets }))

  pub none_shown : HandsUpNone v v' → HandsUpNone shown shown' × IsKeptAfter
  none_shown none =
      let r = hands_up_none table v v' h.on_disk h.below none in
      (none_up wanted (view_of table v) (view_of table v') r.0, after r.1 (beside_same v v' none.same))

  pub label_shown : (label : Option DeviceLabel) → TakesLabel v label v' → TakesLabel shown label shown' × IsKeptAfter
  label_shown label takes =
      (label_up wanted (view_of table v) (view_of table v') label (over label takes), after (goes label takes) (beside_label v v' label takes))
    where
      over : (label : Option DeviceLabel) → TakesLabel v label v' → TakesLabel (view_of table v) label (view_of table v')
      over None takes = (takes.0, ap (λ (x : DeviceView). view_of table x) takes.1)
      over (Some label) takes = (takes.0, takes.1, ap (λ (x : DeviceView). view_of table x) takes.2)

      goes : (label : Option DeviceLabel) → TakesLabel v label v' → GoesOn table v v'
      goes None takes = goes_same table v v' h.on_disk h.below takes.1
      goes (Some label) takes = goes_beside (record v.adapter { labels = takes.0 }) takes.2

  pub forgets_shown : ForgetsLabels v v' → ForgetsLabels shown shown' × IsKeptAfter
  forgets_shown forgets =
      let adapter : AdapterView = record v.adapter { labels = [] } in (
        forgets_up wanted (view_of table v) (view_of table v') (ap (λ (x : DeviceView). view_of table x) forgets),
        after (goes_beside adapter forgets) (beside_adapter v v' adapter forgets),
      )

-- ROOMS

-- what is shown as reserved at a spot is reserved below, for that request of the disk
pub record IsUnder (table : List Extent) (wanted : Wanted) (v : DeviceView) (spot : ℕ) (reserved : Reserved) : Type 0 where
  pub bounded : IsBounded (rules_over table v.rules) reserved.request
  pub is_wanted : wanted_at wanted spot ≡ Some reserved.request
  pub is_room : room_at v.rooms spot ≡ Some (record reserved { request = on_disk (rules_over table v.rules) reserved.request })

pub under : (locations_below : ℕ) (table : List Extent) (wanted : Wanted) (v : DeviceView) (spot : ℕ) (reserved : Reserved)
    → IsKept locations_below table wanted v → room_at (shown_of table wanted v).rooms spot ≡ Some reserved → IsUnder table wanted v spot reserved
under locations_below table wanted v spot reserved h is =
    by (room_at v.rooms spot) refl (sym (at_room wanted v.rooms spot) ∙ is)
  where
    rules : Rules
    rules = rules_over table v.rules

    by : (room : Option Reserved) → room_at v.rooms spot ≡ room → for_wanted (room_at v.rooms spot) (wanted_at wanted spot) ≡ Some reserved
        → IsUnder table wanted v spot reserved
    by None at e = absurd (lacks (ap (λ (x : Option Reserved). for_wanted x (wanted_at wanted spot)) (sym at) ∙ e))
      where
        lacks : None ≡ Some reserved → ⊥
        lacks e = cc (e)
    by (Some room) at e =
        let w : IsWantedFor rules (wanted_at wanted spot) room = h.rooms spot room at in
        let same : Some (record room { request = w.request }) ≡ Some reserved =
        ap (λ (x : Option Request). for_wanted (Some room) x) (sym w.is_wanted) ∙ ap (λ (x : Option Reserved). for_wanted x (wanted_at wanted spot)) (sym at) ∙ e in
        let is_reserved : record room { request = w.request } ≡ reserved = unsome same in
        subst (IsUnder table wanted v spot) is_reserved (record {
          bounded = w.bounded;
          is_wanted = w.is_wanted;
          is_room = at ∙ ap (λ (q : Request). Some (record room { request = q })) w.is_below;
        })
      where
        unsome : {x y : Reserved} → Some x ≡ Some y → x ≡ y
        unsome e = cc (e)

pub same_wanted : (x y : Request) → Some x ≡ Some y → x ≡ y
same_wanted x y e = cc (e)

-- so it is ready below
pub ready_under : (table : List Extent) (wanted : Wanted) (v : DeviceView) (spot : ℕ) (r : Request) → IsUnder table wanted v spot (whole_for r)
    → IsReady v.rooms spot
ready_under table wanted v spot r u = u.is_room ∙ ap (λ (q : Request). Some (whole_for q)) (sym (ap request_of u.is_room))

no_room : (reserved : Reserved) → None ≡ Some reserved → ⊥
no_room reserved e = cc (e)

same_request : (x y : Reserved) → Some x ≡ Some y → x.request ≡ y.request
same_request x y e = cc (e)

-- a room is gone
pub rooms_less : (rules : Rules) (wanted : Wanted) (old new : List (Option Reserved)) (spot : ℕ) (before : Option Reserved)
    → SetsRoom old spot before None new
    → ((at : ℕ) (reserved : Reserved) → room_at old at ≡ Some reserved → IsWantedFor rules (wanted_at wanted at) reserved)
    → (at : ℕ) (reserved : Reserved) → room_at new at ≡ Some reserved → IsWantedFor rules (wanted_at wanted at) reserved
rooms_less rules wanted old new spot before set given at reserved is = elim (cases_eq at spot) [
  | inl e ↦ absurd (no_room reserved (sym set.is ∙ ap (room_at new) (sym e) ∙ is))
  | inr other ↦ given at reserved (sym (set.others at other) ∙ is)
]

-- or there is one more
pub rooms_more : (rules : Rules) (wanted wanted' : Wanted) (old new : List (Option Reserved)) (spot : ℕ) (x : Reserved)
    → SetsRoom old spot None (Some x) new → ((other : ℕ) → other ≢ spot → wanted_at wanted' other ≡ wanted_at wanted other)
    → (r : Request) → wanted_at wanted' spot ≡ Some r → IsBounded rules r → x.request ≡ on_disk rules r
    → ((at : ℕ) (reserved : Reserved) → room_at old at ≡ Some reserved → IsWantedFor rules (wanted_at wanted at) reserved)
    → (at : ℕ) (reserved : Reserved) → room_at new at ≡ Some reserved → IsWantedFor rules (wanted_at wanted' at) reserved
rooms_more rules wanted wanted' old new spot x set beside r is_wanted bounded is_below given at reserved is = elim (cases_eq at spot) [
  | inl e ↦ record {
    request = r;
    is_wanted = ap (wanted_at wanted') e ∙ is_wanted;
    bounded = bounded;
    is_below = sym (same_request x reserved (sym set.is ∙ ap (room_at new) (sym e) ∙ is)) ∙ is_below;
  }
  | inr other ↦
      let w : IsWantedFor rules (wanted_at wanted at) reserved = given at reserved (sym (set.others at other) ∙ is) in
      record { request = w.request; is_wanted = beside at other ∙ w.is_wanted; bounded = w.bounded; is_below = w.is_below }
]

-- RESERVING

goes_reserved : (table : List Extent) (v v' : DeviceView) → IsOnDisk table v → Reserves v v' → GoesOn table v v'
goes_reserved table v v' k reserves = subst (GoesOn table v) (sym reserves.same) (record {
  on_disk = record { whole = k.whole; partitions = k.partitions; packets = k.packets; requests = k.requests; placed = k.placed };
  same_rules = refl;
})

-- places are made below, whatever the rooms that are shown
reserves_shown : (table : List Extent) (wanted wanted' : Wanted) (v v' : DeviceView) → Reserves v v'
    → Reserves (shown_of table wanted v) (shown_of table wanted' v')
reserves_shown table wanted wanted' v v' h = record {
  same = ap (λ (x : DeviceView). record (view_of table x) { rooms = rooms_with wanted' v'.rooms; places = v'.places + wanted'.places }) h.same;
  adapter = h.adapter;
}

-- a spot is reserved below, and noted
pub spot_reserved : (locations_below : ℕ) (table : List Extent) (wanted wanted' : Wanted) (v v' : DeviceView) (spot : ℕ) (r : Request)
    → IsKept locations_below table wanted v → IsBounded (rules_over table v.rules) r
    → ReservesSpot v spot (on_disk (rules_over table v.rules) r) v' → IsOrderly v' → Notes wanted spot r wanted'
    → ReservesSpot (shown_of table wanted v) spot r (shown_of table wanted' v') × IsKept locations_below table wanted' v'
spot_reserved locations_below table wanted wanted' v v' spot r h bounded reserves orderly notes =
    let rules : Rules = rules_over table v.rules in
    let same_packets : v'.packets ≡ v.packets = ap (λ (x : DeviceView). x.packets) reserves.reserves.same in
    let before : All (IsNotedAt wanted) v'.packets = subst (λ (ps : List Packet). All (IsNotedAt wanted) ps) (sym same_packets) h.noted in (
      record {
        reserves = reserves_shown table wanted wanted' v v' reserves.reserves;
        apart = All-map (HasOtherSpot spot) packet_above v.packets reserves.apart;
        room = rooms_noted wanted wanted' v.rooms v'.rooms spot r (whole_for (on_disk rules r)) reserves.room notes;
      },
      kept_with locations_below table wanted wanted' v v' h (goes_reserved table v v' h.on_disk reserves.reserves) orderly
          (rooms_more rules wanted wanted' v.rooms v'.rooms spot (whole_for (on_disk rules r)) reserves.room notes.others r notes.is bounded refl h.rooms)
          (λ i d low. notes.others (get_or v'.packets i d).spot (away (get_or v'.packets i d) (orderly.vacant i d low)) ∙ before i d low),
    )
  where
    away : (p : Packet) → IsOffRooms v'.rooms p → p.spot ≢ spot
    away p off same = no_room (whole_for (on_disk (rules_over table v.rules) r)) (sym off ∙ ap (room_at v'.rooms) same ∙ reserves.room.is)

-- where the request below is that one of the disk
pub spot_reserved_as : (locations_below : ℕ) (table : List Extent) (wanted wanted' : Wanted) (v v' : DeviceView) (spot : ℕ) (r q : Request)
    → q ≡ on_disk (rules_over table v.rules) r → IsKept locations_below table wanted v → IsBounded (rules_over table v.rules) r
    → ReservesSpot v spot q v' → IsOrderly v' → Notes wanted spot r wanted'
    → ReservesSpot (shown_of table wanted v) spot r (shown_of table wanted' v') × IsKept locations_below table wanted' v'
spot_reserved_as locations_below table wanted wanted' v v' spot r q e h bounded reserves orderly notes =
    spot_reserved locations_below table wanted wanted' v v' spot r h bounded (subst (λ (x : Request). ReservesSpot v spot x v') e reserves) orderly notes

-- none is, and what is wanted stays at each spot
pub none_reserved : (locations_below : ℕ) (table : List Extent) (wanted wanted' : Wanted) (v v' : DeviceView)
    → IsKept locations_below table wanted v → ReservesNone v v' → IsOrderly v' → ((spot : ℕ) → wanted_at wanted' spot ≡ wanted_at wanted spot)
    → ReservesNone (shown_of table wanted v) (shown_of table wanted' v') × IsKept locations_below table wanted' v'
none_reserved locations_below table wanted wanted' v v' h none orderly alike =
    let rules : Rules = rules_over table v.rules in
    let same_packets : v'.packets ≡ v.packets = ap (λ (x : DeviceView). x.packets) none.reserves.same in
    let before : All (IsNotedAt wanted) v'.packets = subst (λ (ps : List Packet). All (IsNotedAt wanted) ps) (sym same_packets) h.noted in (
      record {
        reserves = reserves_shown table wanted wanted' v v' none.reserves;
        room = λ spot. rooms_alike wanted wanted' v'.rooms alike spot ∙ rooms_same wanted v.rooms v'.rooms none.room spot;
      },
      kept_with locations_below table wanted wanted' v v' h (goes_reserved table v v' h.on_disk none.reserves) orderly
          (λ spot reserved is.
          subst (λ (w : Option Request). IsWantedFor rules w reserved) (sym (alike spot)) (h.rooms spot reserved (sym (none.room spot) ∙ is)))
          (λ i d low. alike (get_or v'.packets i d).spot ∙ before i d low),
    )

-- a spot that was reserved and is given back at once is as it was
pub given_back : (v mid v' : DeviceView) (spot : ℕ) (r : Request) → ReservesSpot v spot r mid → Frees mid spot v' → ReservesNone v v'
given_back v mid v' spot r s f =
    let same_adapter : v'.adapter ≡ mid.adapter = ap (λ (x : DeviceView). x.adapter) f.same in
    let first : v' ≡ record v { rooms = v'.rooms; places = mid.places; adapter = record v.adapter { reserved = mid.adapter.reserved } } =
    f.same ∙ ap (λ (x : DeviceView). record x { rooms = v'.rooms }) s.reserves.same in
    record {
      reserves = record {
        same = first ∙ ap (λ (a : AdapterView). record v { rooms = v'.rooms; places = mid.places; adapter = record v.adapter { reserved = a.reserved } }) (sym same_adapter)
            ∙ ap (λ (n : ℕ). record v { rooms = v'.rooms; places = n; adapter = record v.adapter { reserved = v'.adapter.reserved } }) (sym (ap (λ (x : DeviceView). x.places) f.same));
        adapter = subst (λ (a : AdapterView). ReservesMore v.adapter a) (sym same_adapter) s.reserves.adapter;
      };
      room = λ at. elim (cases_eq at spot) [
        | inl e ↦ ap (room_at v'.rooms) e ∙ f.room.is ∙ sym s.room.was ∙ ap (room_at v.rooms) (sym e)
        | inr other ↦ f.room.others at other ∙ s.room.others at other
      ];
    }

-- A ROOM IS GIVEN BACK

pub frees_shown : (locations_below : ℕ) (table : List Extent) (wanted : Wanted) (v v' : DeviceView) (spot : ℕ) (reserved : Reserved)
    → IsKept locations_below table wanted v → IsOrderly v' → IsUnder table wanted v spot reserved → Frees v spot v'
    → Frees (shown_of table wanted v) spot (shown_of table wanted v') × IsKept locations_below table wanted v'
frees_shown locations_below table wanted v v' spot reserved h orderly u f =
    let k : IsOnDisk table v = h.on_disk in
    let same_packets : v'.packets ≡ v.packets = ap (λ (x : DeviceView). x.packets) f.same in
    let goes : GoesOn table v v' = subst (GoesOn table v) (sym f.same) (record {
      on_disk = record { whole = k.whole; partitions = k.partitions; packets = k.packets; requests = k.requests; placed = k.placed };
      same_rules = refl;
    }) in (
      record {
        reserved = record f.reserved { request = reserved.request };
        room = subst (λ (x : Option Reserved). SetsRoom (rooms_with wanted v.rooms) spot x None (rooms_with wanted v'.rooms))
            (ap (λ (w : Option Request). for_wanted (Some f.reserved) w) u.is_wanted) (rooms_set wanted v.rooms v'.rooms spot (Some f.reserved) None f.room);
        same = ap (λ (x : DeviceView). record (view_of table x) { rooms = rooms_with wanted v'.rooms; places = x.places + wanted.places }) f.same;
      },
      kept_with locations_below table wanted wanted v v' h goes orderly
          (rooms_less (rules_over table v.rules) wanted v.rooms v'.rooms spot (Some f.reserved) f.room h.rooms)
          (subst (λ (ps : List Packet). All (IsNotedAt wanted) ps) (sym same_packets) h.noted),
    )

-- the sectors of a partition's request are those of the request of the disk
pub near_up : (table : List Extent) (v v' : DeviceView) (r q : Request) → IsWholeDisk v.rules → q ≡ on_disk (rules_over table v.rules) r → ReservesNear v q v'
    → CoversMoreNear v.adapter.run (sectors_asked (rules_over table v.rules) r) v.adapter.reserved v'.adapter.reserved
near_up table v v' r q whole is near =
    let over : Rules = rules_over table v.rules in
    let first : home v.rules (Some 0) (home over (Some r.volume) r.extent.first) ≡ home over (Some r.volume) r.extent.first =
    home_of_whole v.rules 0 (home over (Some r.volume) r.extent.first) v.rules.disk_sectors whole refl in
    let below : ReservesNear v (on_disk over r) v' = subst (λ (x : Request). ReservesNear v x v') is near in
    subst (λ (n : ℕ). CoversMoreNear v.adapter.run (record { first = n; count = r.extent.count }) v.adapter.reserved v'.adapter.reserved) first below
