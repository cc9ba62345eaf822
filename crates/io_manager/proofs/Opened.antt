-- A stack before its first event is in order.
use Rattle.std.proofs.Common.{◌≡◌, ◌<◌, ◌≤◌, ◌+◌, ◌^◌, ℕ, zero, suc, false, List, [], ◌∷◌, inl, inr, All, Option, Some, None, refl, sym, ◌∙◌, ap, subst, map, length, get_or, arith}
use Rattle.io_manager.proofs.Common.{IsPermutation, slice_get, length_permutation, All-nil, All-head, All-tail, All-weaker, Slab, slab_len, Extent, IsPartition, sectors_in, Rules, State, Piece, opening, TagInUse, Started, Removing, Settled, IsHeld, WaitsIfCancelled, Waits, IsAllSent, IsHeldBack, HasMore, IsAtWork, IsWithin, DeviceView, IsOrderly, piece_on_tag, use_on_tag, IsTopmost, IsSame-refl, AreWhole, IsReached, Limits, Tables, AreRising, answer_number, WritesInside, rules_of, IsUnasked, AreFor, AreEmpty, IsFirstView, IsNumbered, slice_is_part, length-part}
use Rattle.pnp.specs.declared.State.{State as PnpState}
use Rattle.io_manager.specs.declared.Answer.{Answer}
use Rattle.io_manager.specs.declared.tables.OpenRequest.{OpenRequest}
use Rattle.io_manager.specs.inside.Sound.{shown_state, is_gone, holders_of, view_of, EndsInRange, FitsBelow, HasNumbers, IsHeldAt, AreHeld, HasPlaces, IsSpotted, WasGiven, IsInState, IsSound, ManagerKept}
use Rattle.io_manager.proofs.Linked.{AreLinked-empty}
use Rattle.io_manager.proofs.Chained.{none_there, AreChained-empty}

-- the arrays of a map's partitions are whole
arrays_whole : (sectors : List (List ℕ)) (rules : Rules) (partitions : List Extent) → rules.partitions ≡ partitions → All (IsPartition (length sectors)) partitions
    → AreWhole rules (map (sectors_in sectors) partitions)
arrays_whole sectors rules partitions same each p =
    subst (λ (ps : List Extent). (elim (slice_get {X = Extent} ps p) as (λ _. ℕ) [ Some extent ↦ extent.count | None ↦ 0 ]) ≤ length (get_or (map (sectors_in sectors) partitions) p [])) (sym same) (whole partitions p each)
  where
    whole : (ps : List Extent) (p : ℕ) → All (IsPartition (length sectors)) ps → (elim (slice_get ps p) as (λ _. ℕ) [ Some extent ↦ extent.count | None ↦ 0 ]) ≤ length (get_or (map (sectors_in sectors) ps) p [])
    whole [] zero all = omega arith
    whole [] (suc p) all = omega arith
    whole (e ∷ es) (suc p) all = whole es p (All-tail (IsPartition (length sectors)) e es all)
    whole (e ∷ es) zero all =
        let inside : e.first + e.count ≤ length sectors = (All-head (IsPartition (length sectors)) e es all).inside in
        let same : length (sectors_in sectors e) ≡ e.count = ap (λ (xs : List (List ℕ)). length xs) (slice_is_part sectors e.first e.count) ∙ length-part sectors e.first e.count inside in
        omega arith

no_window : (window : Option ℕ) → IsWithin window 0
no_window None = tt
no_window (Some window) = omega arith

settled_opening : (rules : Rules) (arrays : List (List (List ℕ))) → Settled rules (opening arrays)
settled_opening rules arrays = record {
  none_owed = refl;
  idle = λ _. All-nil IsHeld;
  idle_unpaused = λ _ _. refl;
  cancelled = All-nil WaitsIfCancelled;
  removing = λ _. All-nil Waits;
  sent = λ _ _. All-nil (IsAllSent rules);
  released = λ _ _. All-nil (IsHeldBack rules (opening arrays));
  alive = All-nil HasMore;
  at_work = λ _. All-nil IsAtWork;
  within_window = no_window rules.window;
}

none_counted : {X : Type 0} (slab : Slab X) → slab.slots ≡ [] → slab_len slab ≡ 0
none_counted {X} slab empty = ap (λ (xs : List (Option X)). slab_len (record slab { slots = xs })) empty

none_in_use : (tags : List TagInUse) (pieces : List Piece) → pieces ≡ [] → IsPermutation (map piece_on_tag pieces) (map use_on_tag tags) → tags ≡ []
none_in_use [] pieces none p = refl
none_in_use (use' ∷ tags) pieces none p =
    let n : length (map use_on_tag (use' ∷ tags)) ≡ length (map piece_on_tag pieces) = length_permutation _ _ p in
    let m : length (map piece_on_tag pieces) ≡ 0 = ap (λ ps. length (map piece_on_tag ps)) none in
    absurd (omega arith)

module _ (limits : Limits) (below : DeviceView) (tables : Tables) (orderly : IsOrderly below) (unasked : IsUnasked below) (for : AreFor below limits)
    (empty : AreEmpty tables) (places : HasPlaces limits tables) where
  abbrev arrays : List (List (List ℕ))
  arrays = map (sectors_in below.adapter.sectors) below.rules.partitions

  at_first : (P : State → Type 0) → P (opening arrays) → P below.state
  at_first P h = subst P (sym unasked.state) h

  -- the manager opens with the sectors of the partitions
  pub opening-view : (view_of limits below tables).state ≡ opening arrays
  opening-view =
      ap (λ (n : ℕ). shown_state n (is_gone tables.state) below.state) empty.first_request
      ∙ ap (λ (p : PnpState). shown_state 1 (is_gone p) below.state) empty.started
      ∙ ap (λ (s : State). shown_state 1 false s) unasked.state

  some_bytes : 0 < limits.sector_size
  some_bytes = elim orderly.adapter.sector_size [
    | inl small ↦ let size = for.sector_size in let same = orderly.read.same_size in omega (arith, small, size, same)
    | inr large ↦ let size = for.sector_size in let same = orderly.read.same_size in omega (arith, large, size, same)
  ]

  -- each partition lies in the disk, which has 2^40 sectors at most
  ends : All EndsInRange below.rules.partitions
  ends =
      All-weaker (IsPartition (length below.adapter.sectors)) EndsInRange
      (λ extent p. let inside : extent.first + extent.count ≤ length below.adapter.sectors = p.inside in let few : length below.adapter.sectors ≤ 2 ^ 40 = orderly.adapter.sectors.1 in omega (arith, inside, few))
      below.rules.partitions unasked.is_map.each

  fits : FitsBelow limits below
  fits = record {
    sector_size = for.sector_size;
    some_bytes = some_bytes;
    max_transfer = for.max_transfer;
    some_transfer = for.some_transfer;
    depth = for.depth;
    keeps_bytes = for.keeps_bytes;
    firsts = for.firsts;
    ends = ends;
    some_open = for.some_open;
    many = unasked.many;
  }

  numbers : HasNumbers below tables
  numbers = record {
    requests = let e = empty.first_request in omega (arith, e);
    handles = let e = empty.first_handle in omega (arith, e);
    rising = at_first (λ (s : State). s.next_request ≤ tables.next_request) (let e = empty.first_request in omega (arith, e));
    submitted = let e = unasked.none_submitted in omega (arith, e);
  }

  held : AreHeld limits.keeps_bytes tables.requests below.state.requests
  held = record {
    held = at_first (λ (s : State). All (IsHeldAt limits.keeps_bytes tables.requests) s.requests) (All-nil (IsHeldAt limits.keeps_bytes tables.requests));
    is_open = λ slot request there. absurd (none_there tables.requests slot request empty.no_requests there);
    one_slot = λ slot other request same there there' number. absurd (none_there tables.requests slot request empty.no_requests there);
    counted = none_counted tables.requests empty.no_requests ∙ at_first (λ (s : State). 0 ≡ length s.requests) refl;
  }

  sound : IsSound limits below tables
  sound = record {
    fits = fits;
    numbers = numbers;
    held = held;
    few = let none = none_counted tables.requests empty.no_requests in omega (arith, none);
    places = places;
    on_map = λ slot handle there. absurd (none_there tables.handles slot handle empty.no_handles there);
    topmost = subst (All IsTopmost) (sym unasked.no_packets) (All-nil IsTopmost);
    spots = subst (All (IsSpotted tables.next_request tables.requests)) (sym unasked.no_packets) (All-nil (IsSpotted tables.next_request tables.requests));
    in_state = subst (λ (p : PnpState). IsInState p below.state) (sym empty.started) (at_first (IsInState Started) (refl, refl));
    none_put_by = empty.none_put_by;
    rising = subst (λ (xs : List Answer). AreRising (map answer_number xs)) (sym empty.no_answers) tt;
    given = subst (All (WasGiven tables.next_request)) (sym empty.no_answers) (All-nil (WasGiven tables.next_request));
    apart = λ slot request there. absurd (none_there tables.requests slot request empty.no_requests there);
    chained = AreChained-empty tables.handles tables.requests tables.next_handle tables.chains empty.no_handles empty.no_requests empty.chains;
    numbered = AreLinked-empty (IsNumbered tables.requests) tables.by_number (λ remainder slot number n. none_there tables.requests slot n.request empty.no_requests n.there) empty.by_number;
    counted = record { places = empty.counts; counted = λ slot number o. absurd (none_there tables.handles slot o.handle empty.no_handles o.there) };
  }

  no_tags : below.adapter.tags ≡ []
  no_tags = none_in_use below.adapter.tags below.state.pieces (at_first (λ (s : State). s.pieces ≡ []) refl) orderly.read.pieces

  pub ManagerKept-opening : ManagerKept limits below tables
  ManagerKept-opening = record {
    sound = sound;
    inside = subst (All (WritesInside below.rules.partitions)) (sym no_tags) (All-nil (WritesInside below.rules.partitions));
    settled = at_first (Settled below.rules) (settled_opening below.rules arrays);
    going = λ removing none. let e : Started ≡ Removing = sym empty.started ∙ removing in cc (e);
    none_recorded = unasked.no_labels;
    reached = subst (IsReached (rules_of limits below.rules)) (sym opening-view) (record {
      arrays = arrays;
      labels = [];
      whole = arrays_whole below.adapter.sectors (rules_of limits below.rules) below.rules.partitions refl unasked.is_map.each;
      run = IsSame-refl (opening arrays);
    });
  }

  pub first_view : IsFirstView limits below (view_of limits below tables)
  first_view = record {
    rules = refl;
    state = opening-view;
    adapter = refl;
    no_handles = empty.no_handles;
    first_handle = empty.first_handle;
    no_requests = ap (λ (xs : List (Option OpenRequest)). holders_of (record tables.requests { slots = xs })) empty.no_requests;
    no_labels = empty.no_labels;
    no_answers = empty.no_answers;
    keeps = empty.keeps;
  }
