-- Open requests are cancelled, one or all of a handle, here and below.
use Rattle.std.proofs.Common.{◌≡◌, ◌≢◌, ◌<◌, ◌≤◌, ◌⊎◌, inl, inr, ℕ, zero, suc, ◌+◌, Bool, true, false, not, List, [], ◌∷◌, ◌++◌, Option, Some, None, refl, sym, ◌∙◌, ap, subst, map, length, arith, append_assoc, cond}
use Rattle.std.specs.Prelude.{IsPermutation, IsFalse, IsNone, All, Any, Contains, option_map, slice_set, count_by}
use Rattle.std.specs.List.{remove}
use Rattle.io_manager.proofs.Common.{deque_len, deque_capacity, map-set_same, cases_eq, map-append, append-nil, sum_by-cons, sum_by-IsPermutation, IsPermutation-refl, IsPermutation-sym, IsPermutation-trans, IsPermutation-map, IsPermutation-remove, All-permutation, Contains-permutation, length_permutation, All-nil, All-head, All-tail, All-cons, All-append, All-weaker, All-contains, Contains-append_left, Contains-append_right, Cancels, as_cancelled, AreDistinct, request_number, Run, distinct_first, IsSame-refl, IsSame-sym, Run-append, DeviceView, Packet, IsOrderly, packet_number, IsTopmost, Limits, PacketBelow, Tables, as_marked, IsLowestToMark, MarksAt, CancelsSlot, IsUnmarked, IsBelowUnmarked, CancelsAll, of_handle, as_cancel, AreRising, IsAbove, Chains, IsNumbered, AreNumbered}
use Rattle.slab.specs.Slab.{Slab, get, slab_len, Updates as SlabUpdates}
use Rattle.machine.specs.State.{OpenRequest as OpenBelow, State}
use Rattle.device.specs.Served.{IsAt, IsBeside, CancelsAt, NoneToCancel}
use Rattle.io_manager.specs.declared.Answer.{Answer}
use Rattle.io_manager.specs.declared.tables.OpenRequest.{OpenRequest}
use Rattle.io_manager.specs.inside.Ordering.{HasOtherNumber}
use Rattle.io_manager.specs.inside.Sound.{holder_of, holders_of, IsHeldAt, AreHeld, IsSpotted, AreApart, IsSound}
use Rattle.io_manager.proofs.Linked.{AreLinked-still}
use Rattle.io_manager.proofs.Chained.{IsKept, AreChained-less}
use Rattle.io_manager.proofs.Counted.{AreCounted-same}
use Rattle.io_manager.proofs.Askings.{KeepsAsked-same, asks_same, AreHeld-along}
use Rattle.io_manager.proofs.Fitted.{FitsBelow-same, IsInState-fewer}

-- THE REQUEST BELOW

same_item : {X : Type 0} (a b : X) → Some a ≡ Some b → a ≡ b
same_item a b e = cc (e)

Contains-there : (f : OpenBelow → ℕ) (xs : List OpenBelow) (n : ℕ) → Contains (map f xs) n → (o : OpenBelow) × Contains xs o × (f o ≡ n)
Contains-there f [] n (k, low, is) = absurd (omega arith)
Contains-there f (x ∷ xs) n (zero, low, is) = (x, (0, omega arith, refl), is)
Contains-there f (x ∷ xs) n (suc k, low, is) =
    let rest : (o : OpenBelow) × Contains xs o × (f o ≡ n) = Contains-there f xs n (k, omega arith, is) in
    (rest.0, (suc rest.1.0, (let l : rest.1.0 < length xs = rest.1.1 in omega arith), rest.1.2), rest.2)

-- an entry is that of one open request below, which is cancelled where it is
pub record IsBelow (below : List OpenBelow) (request : OpenRequest) : Type 0 where
  pub open' : OpenBelow
  pub is_open : Contains below open'
  pub same_number : open'.number ≡ request.number
  pub same_cancelled : open'.cancelled ≡ request.cancelled

pub held_below : {w : Bool} (requests : Slab OpenRequest) (below : List OpenBelow) → AreHeld w requests below → (slot : ℕ) (request : OpenRequest) → get requests slot ≡ Some request → IsBelow below request
held_below requests below h slot request there =
    let o : (o : OpenBelow) × Contains below o × (o.number ≡ request.number) = Contains-there request_number below request.number (h.is_open slot request there) in
    let held : IsHeldAt _ requests o.0 = All-contains (IsHeldAt _ requests) below o.0 h.held o.1 in
    let same : held.slot ≡ slot = h.one_slot held.slot slot held.request request held.there there (held.same_number ∙ o.2) in
    let is : held.request ≡ request = same_item held.request request (sym held.there ∙ ap (get requests) same ∙ there) in
    record { open' = o.0; is_open = o.1; same_number = o.2; same_cancelled = sym held.same_cancelled ∙ ap (λ (r : OpenRequest). r.cancelled) is }

-- so it can be cancelled there
can_cancel : (s : State) (o : OpenBelow) → Contains s.requests o → IsFalse o.cancelled → NoneToCancel s o.number → ⊥
can_cancel s o (k, low, is) not_yet none =
    none (record s { requests = as_cancelled o ∷ remove s.requests k })
    (record { request = o; others = remove s.requests k; is_open = IsPermutation-remove s.requests k o low (sym is); is_number = refl; not_yet = not_yet; after = IsSame-refl _ })

-- THE PACKET BELOW

packet_there : (xs : List Packet) (n : ℕ) → Contains (map packet_number xs) n → (p : Packet) × Contains xs p × (p.number ≡ n)
packet_there [] n (k, low, is) = absurd (omega arith)
packet_there (x ∷ xs) n (zero, low, is) = (x, (0, omega arith, refl), is)
packet_there (x ∷ xs) n (suc k, low, is) =
    let rest : (p : Packet) × Contains xs p × (p.number ≡ n) = packet_there xs n (k, omega arith, is) in
    (rest.0, (suc rest.1.0, (let l : rest.1.0 < length xs = rest.1.1 in omega arith), rest.1.2), rest.2)

-- the packet of an entry is at the entry's spot
spotted : (limits : Limits) (below : DeviceView) (tables : Tables) → IsSound limits below tables → IsOrderly below → (slot : ℕ) (request : OpenRequest) → get tables.requests slot ≡ Some request
    → Any (IsAt request.spot request.number) below.packets
spotted limits below tables h orderly slot request there =
    let inside : Contains (map packet_number below.packets) request.number = Contains-permutation _ _ request.number (IsPermutation-sym _ _ orderly.packets) (h.held.is_open slot request there) in
    let p : (p : Packet) × Contains below.packets p × (p.number ≡ request.number) = packet_there below.packets request.number inside in
    let at : IsSpotted tables.next_request tables.requests p.0 = All-contains (IsSpotted tables.next_request tables.requests) below.packets p.0 h.spots p.1 in
    (p.1.0, p.0, p.1.1, p.1.2, record { is_spot = at.spot slot request there (sym p.2); is_number = p.2 })

-- what the device does for an entry that is not cancelled yet
pub cancelled_below : (limits : Limits) (below below' : DeviceView) (tables : Tables) → IsSound limits below tables → IsOrderly below → (slot : ℕ) (request : OpenRequest) → get tables.requests slot ≡ Some request → request.cancelled ≡ false
    → CancelsAt below request.spot request.number below' → Cancels below.state request.number below'.state × IsBeside below below'
cancelled_below limits below below' tables h orderly slot request there not_yet cancels =
    elim (cancels.there (spotted limits below tables h orderly slot request there)).one_of [
      | inl both ↦ both
      | inr none ↦
          let b : IsBelow below.state.requests request = held_below tables.requests below.state.requests h.held slot request there in
          absurd (can_cancel below.state b.open' b.is_open (b.same_cancelled ∙ not_yet) (subst (NoneToCancel below.state) (sym b.same_number) none.0))
    ]

-- ONE ENTRY IS MARKED

module _ (old new : Slab OpenRequest) (slot : ℕ) (request : OpenRequest) (there : get old slot ≡ Some request) (updates : SlabUpdates old new slot (Some (as_marked request))) where
  -- what a slot held before
  pub held_before : (other : ℕ) (x : OpenRequest) → get new other ≡ Some x → (y : OpenRequest) × (get old other ≡ Some y) × ((x ≡ y) ⊎ ((other ≡ slot) × (x ≡ as_marked y)))
  held_before other x at = elim (cases_eq other slot) [
    | inl same ↦
        let is : as_marked request ≡ x = same_item (as_marked request) x (sym updates.changed ∙ ap (get new) (sym same) ∙ at) in
        (request, ap (get old) same ∙ there, inr (same, sym is))
    | inr apart ↦ (x, sym (updates.others other apart) ∙ at, inl refl)
  ]

  number_before : (x y : OpenRequest) (other : ℕ) → (x ≡ y) ⊎ ((other ≡ slot) × (x ≡ as_marked y)) → x.number ≡ y.number
  number_before x y other (inl same) = ap (λ (r : OpenRequest). r.number) same
  number_before x y other (inr marked) = ap (λ (r : OpenRequest). r.number) marked.1

  spot_before : (x y : OpenRequest) (other : ℕ) → (x ≡ y) ⊎ ((other ≡ slot) × (x ≡ as_marked y)) → x.spot ≡ y.spot
  spot_before x y other (inl same) = ap (λ (r : OpenRequest). r.spot) same
  spot_before x y other (inr marked) = ap (λ (r : OpenRequest). r.spot) marked.1

  -- what it holds now
  held_now : (other : ℕ) (y : OpenRequest) → get old other ≡ Some y → (get new other ≡ Some y) ⊎ ((other ≡ slot) × (y ≡ request) × (get new other ≡ Some (as_marked y)))
  held_now other y at = elim (cases_eq other slot) [
    | inl same ↦
        let is : request ≡ y = same_item request y (sym there ∙ ap (get old) (sym same) ∙ at) in
        inr (same, sym is, ap (get new) same ∙ updates.changed ∙ ap (λ r. Some (as_marked r)) is)
    | inr apart ↦ inl (updates.others other apart ∙ at)
  ]

  other_held : {w : Bool} (o : OpenBelow) → o.number ≢ request.number → IsHeldAt w old o → IsHeldAt w new o
  other_held o apart h = record {
    slot = h.slot;
    request = h.request;
    there = updates.others h.slot elsewhere ∙ h.there;
    same_number = h.same_number;
    same_kind = h.same_kind;
    same_cancelled = h.same_cancelled;
    has_partition = h.has_partition;
    label_bytes = h.label_bytes;
  }
    where
      elsewhere : h.slot ≢ slot
      elsewhere same =
          let is : h.request ≡ request = same_item h.request request (sym h.there ∙ ap (get old) same ∙ there) in
          apart (sym h.same_number ∙ ap (λ (r : OpenRequest). r.number) is)

  held_marked : {w : Bool} → slab_len new ≡ slab_len old → (below : List OpenBelow) (o : OpenBelow) (others : List OpenBelow) → IsPermutation below (o ∷ others) → o.number ≡ request.number → All (λ (x : OpenBelow). x.number ≢ o.number) others
      → AreHeld w old below → AreHeld w new (as_cancelled o ∷ others)
  held_marked counted below o others p number differ h =
      let all : All (IsHeldAt _ old) (o ∷ others) = All-permutation (IsHeldAt _ old) _ _ p h.held in
      let mine : IsHeldAt _ old o = All-head (IsHeldAt _ old) o others all in
      let at : mine.slot ≡ slot = h.one_slot mine.slot slot mine.request request mine.there there (mine.same_number ∙ number) in
      let is : mine.request ≡ request = same_item mine.request request (sym mine.there ∙ ap (get old) at ∙ there) in
      record {
        held =
            All-cons (IsHeldAt _ new) (as_cancelled o) others
            (record {
              slot = slot;
              request = as_marked request;
              there = updates.changed;
              same_number = sym number;
              same_kind = ap (λ (r : OpenRequest). r.kind) (sym is) ∙ mine.same_kind;
              same_cancelled = refl;
              has_partition = mine.has_partition;
              label_bytes = λ kept reads. subst (λ (r : OpenRequest). o.request.length ≤ r.label_bytes) is (mine.label_bytes kept reads);
            })
            (λ k d low. other_held _ (λ same. differ k d low (same ∙ sym number)) (All-tail (IsHeldAt _ old) o others all k d low));
        is_open = λ other x there'.
            let before : (y : OpenRequest) × (get old other ≡ Some y) × ((x ≡ y) ⊎ ((other ≡ slot) × (x ≡ as_marked y))) = held_before other x there' in
            subst (Contains (map request_number (as_cancelled o ∷ others))) (sym (number_before x before.0 other before.2))
            (Contains-permutation _ _ before.0.number (IsPermutation-map request_number _ _ p) (h.is_open other before.0 before.1));
        one_slot = λ a b x y at_a at_b same.
            let first : (z : OpenRequest) × (get old a ≡ Some z) × ((x ≡ z) ⊎ ((a ≡ slot) × (x ≡ as_marked z))) = held_before a x at_a in
            let second : (z : OpenRequest) × (get old b ≡ Some z) × ((y ≡ z) ⊎ ((b ≡ slot) × (y ≡ as_marked z))) = held_before b y at_b in
            h.one_slot a b first.0 second.0 first.1 second.1 (sym (number_before x first.0 a first.2) ∙ same ∙ number_before y second.0 b second.2);
        counted = counted ∙ h.counted ∙ sym (length_permutation _ _ p);
      }

  still_spotted : (next : ℕ) (packet : Packet) → IsSpotted next old packet → IsSpotted next new packet
  still_spotted next packet s = record {
    given = s.given;
    spot = λ other x there' same.
        let before : (y : OpenRequest) × (get old other ≡ Some y) × ((x ≡ y) ⊎ ((other ≡ slot) × (x ≡ as_marked y))) = held_before other x there' in
        s.spot other before.0 before.1 (sym (number_before x before.0 other before.2) ∙ same) ∙ sym (spot_before x before.0 other before.2);
  }

  still_kept : (other : ℕ) (x : OpenRequest) → get new other ≡ Some x → IsKept old slot other x
  still_kept other x at =
      let before : (y : OpenRequest) × (get old other ≡ Some y) × ((x ≡ y) ⊎ ((other ≡ slot) × (x ≡ as_marked y))) = held_before other x at in
      record {
        before = before.0;
        there = before.1;
        same_handle = of_handle x before.0 other before.2;
        same_slot = at_handle x before.0 other before.2;
        unmarked = λ not_yet. (
          unmarked_before x before.0 other before.2 not_yet,
          λ same.
              let is : as_marked request ≡ x = same_item (as_marked request) x (sym updates.changed ∙ ap (get new) (sym same) ∙ at) in
              let e : true ≡ false = ap (λ (r : OpenRequest). r.cancelled) is ∙ not_yet in
              cc (e),
        );
      }
    where
      of_handle : (x y : OpenRequest) (other : ℕ) → (x ≡ y) ⊎ ((other ≡ slot) × (x ≡ as_marked y)) → x.handle ≡ y.handle
      of_handle x y other (inl same) = ap (λ (r : OpenRequest). r.handle) same
      of_handle x y other (inr marked) = ap (λ (r : OpenRequest). r.handle) marked.1

      at_handle : (x y : OpenRequest) (other : ℕ) → (x ≡ y) ⊎ ((other ≡ slot) × (x ≡ as_marked y)) → x.handle_slot ≡ y.handle_slot
      at_handle x y other (inl same) = ap (λ (r : OpenRequest). r.handle_slot) same
      at_handle x y other (inr marked) = ap (λ (r : OpenRequest). r.handle_slot) marked.1

      unmarked_before : (x y : OpenRequest) (other : ℕ) → (x ≡ y) ⊎ ((other ≡ slot) × (x ≡ as_marked y)) → x.cancelled ≡ false → x ≡ y
      unmarked_before x y other (inl same) not_yet = same
      unmarked_before x y other (inr marked) not_yet = let e : true ≡ false = ap (λ (r : OpenRequest). r.cancelled) (sym marked.1) ∙ not_yet in cc (e)

  -- the cancel flag counts for nothing
  same_count : (other number : ℕ) → of_handle (get new other) number ≡ of_handle (get old other) number
  same_count other number = elim (cases_eq other slot) [
    | inl same ↦ ap (λ x. of_handle (get new x) number) same ∙ ap (λ x. of_handle x number) updates.changed ∙ sym (ap (λ x. of_handle x number) there) ∙ ap (λ x. of_handle (get old x) number) (sym same)
    | inr apart ↦ ap (λ x. of_handle x number) (updates.others other apart)
  ]

  -- and changes no number
  still_numbered : (chains : Chains) → AreNumbered old chains → AreNumbered new chains
  still_numbered chains l =
      AreLinked-still (IsNumbered old) (IsNumbered new) chains l
      (λ remainder other number n.
      let before : (y : OpenRequest) × (get old other ≡ Some y) × ((n.request ≡ y) ⊎ ((other ≡ slot) × (n.request ≡ as_marked y))) = held_before other n.request n.there in
      record { request = before.0; there = before.1; is_number = sym (number_before n.request before.0 other before.2) ∙ n.is_number; leaves = n.leaves })
      (λ remainder other number n. numbered_now remainder other number n (held_now other n.request n.there))
    where
      numbered_now : (remainder other number : ℕ) (n : IsNumbered old remainder other number) → (get new other ≡ Some n.request) ⊎ ((other ≡ slot) × (n.request ≡ request) × (get new other ≡ Some (as_marked n.request)))
          → IsNumbered new remainder other number
      numbered_now remainder other number n (inl at) = record { request = n.request; there = at; is_number = n.is_number; leaves = n.leaves }
      numbered_now remainder other number n (inr marked) = record { request = as_marked n.request; there = marked.2; is_number = n.is_number; leaves = n.leaves }

  still_apart : (answers : List Answer) → AreApart old answers → AreApart new answers
  still_apart answers h other x there' =
      let before : (y : OpenRequest) × (get old other ≡ Some y) × ((x ≡ y) ⊎ ((other ≡ slot) × (x ≡ as_marked y))) = held_before other x there' in
      subst (λ n. All (HasOtherNumber n) answers) (sym (number_before x before.0 other before.2)) (h other before.0 before.1)

-- THE TABLES STAY SOUND

pub marked_sound : (limits : Limits) (below below' : DeviceView) (tables tables' : Tables) (slot : ℕ) (place : PacketBelow) → IsSound limits below tables → AreDistinct below.state → (m : MarksAt tables slot place tables')
    → Cancels below.state m.request.number below'.state → IsBeside below below' → IsSound limits below' tables'
marked_sound limits below below' tables tables' slot place h distinct m cancels beside =
    subst (IsSound limits below') (sym m.after) (record {
      fits = FitsBelow-same limits below below' beside.same_rules beside.same_most h.fits;
      numbers = record {
        requests = h.numbers.requests;
        handles = h.numbers.handles;
        rising = rw cancels.after.next_request h.numbers.rising;
        submitted = rw beside.same_submitted h.numbers.submitted;
      };
      held =
          AreHeld-along tables'.requests (record below.state { requests = as_cancelled cancels.request ∷ cancels.others }) below'.state
          (asks_same _ _ (KeepsAsked-same _ _ (IsSame-sym _ _ cancels.after)))
          (held_marked tables.requests tables'.requests slot m.request m.there m.marks m.counted below.state.requests cancels.request cancels.others cancels.is_open cancels.is_number
          (distinct_first request_number below.state.requests cancels.request cancels.others distinct.requests cancels.is_open) h.held);
      few = rw m.counted h.few;
      places = record {
        labels = m.label_places.0 ∙ h.places.labels;
        answered = h.places.answered;
        alike = h.places.alike ∙ sym m.label_places.1;
        label_bytes = m.label_places.2 ∙ h.places.label_bytes;
        answer_bytes = h.places.answer_bytes;
        untaken = subst (λ n. deque_len tables.untaken + n ≤ deque_capacity tables.untaken) (sym m.counted) h.places.untaken;
        handles = h.places.handles;
        requests = rw m.slots h.places.requests;
      };
      on_map = rw beside.same_rules h.on_map;
      topmost = All-permutation IsTopmost _ _ (IsPermutation-sym _ _ beside.same_packets) h.topmost;
      spots =
          All-permutation (IsSpotted tables.next_request tables'.requests) _ _ (IsPermutation-sym _ _ beside.same_packets)
          (All-weaker (IsSpotted tables.next_request tables.requests) (IsSpotted tables.next_request tables'.requests) (still_spotted tables.requests tables'.requests slot m.request m.there m.marks tables.next_request) below.packets h.spots);
      in_state =
          let before : length (cancels.request ∷ cancels.others) ≡ length below.state.requests = length_permutation _ _ cancels.is_open in
          let after : length (as_cancelled cancels.request ∷ cancels.others) ≡ length below'.state.requests = length_permutation _ _ cancels.after.requests in
          IsInState-fewer tables.state below.state below'.state cancels.after.paused cancels.after.removing (omega arith) h.in_state;
      none_put_by = h.none_put_by;
      rising = h.rising;
      given = h.given;
      apart = still_apart tables.requests tables'.requests slot m.request m.there m.marks tables.untaken.items h.apart;
      chained =
          AreChained-less tables.handles tables.requests tables'.requests tables.next_handle tables.chains h.chained slot (still_kept tables.requests tables'.requests slot m.request m.there m.marks)
          m.request m.there m.not_yet tables'.chains m.chains (λ other x apart there. m.marks.others other apart ∙ there) (λ other x there same. h.held.one_slot other slot x m.request there m.there same);
      numbered = still_numbered tables.requests tables'.requests slot m.request m.there m.marks tables.by_number h.numbered;
      counted = AreCounted-same tables.handles tables.requests tables'.requests tables.open_counts h.counted (same_count tables.requests tables'.requests slot m.request m.there m.marks);
    })

-- HOW MANY CAN BE CANCELLED

-- not cancelled yet
abbrev pub is_unmarked : OpenBelow → Bool
is_unmarked o = not o.cancelled

count_first : (o : OpenBelow) (xs : List OpenBelow) → count_by is_unmarked (o ∷ xs) ≡ cond (is_unmarked o) 1 0 + count_by is_unmarked xs
count_first o xs = sum_by-cons (λ x. cond (is_unmarked x) 1 0) o xs

count_same : (xs ys : List OpenBelow) → IsPermutation xs ys → count_by is_unmarked xs ≡ count_by is_unmarked ys
count_same xs ys p = sym (sum_by-IsPermutation (λ x. cond (is_unmarked x) 1 0) xs ys p)

one_less : (a b c d : ℕ) → a ≡ d → b ≡ 1 + c → d ≡ 0 + c → a + 1 ≡ b
one_less a b c d e f g = omega arith

pub one_fewer : (s : State) (number : ℕ) (s' : State) → Cancels s number s' → count_by is_unmarked s'.requests + 1 ≡ count_by is_unmarked s.requests
one_fewer s number s' c =
    one_less (count_by is_unmarked s'.requests) (count_by is_unmarked s.requests) (count_by is_unmarked c.others) (count_by is_unmarked (as_cancelled c.request ∷ c.others))
    (count_same s'.requests (as_cancelled c.request ∷ c.others) c.after.requests)
    (count_same s.requests (c.request ∷ c.others) c.is_open ∙ count_first c.request c.others ∙ ap (λ b. cond (not b) 1 0 + count_by is_unmarked c.others) c.not_yet)
    (count_first (as_cancelled c.request) c.others)

-- THE HOLDERS STAY

pub holders_same : (old new : Slab OpenRequest) (slot : ℕ) (request : OpenRequest) → get old slot ≡ Some request → new.slots ≡ slice_set old.slots slot (Some (as_marked request)) → holders_of new ≡ holders_of old
holders_same old new slot request there slots =
    ap (map (option_map holder_of)) slots
    ∙ map-set_same (option_map holder_of) old.slots slot (Some (as_marked request)) None (sym (ap (option_map holder_of) there))

-- ONE AFTER ANOTHER, BY RISING NUMBERS

rising_more : (numbers : List ℕ) (n : ℕ) → AreRising numbers → All (λ m. m < n) numbers → AreRising (numbers ++ n ∷ [])
rising_more [] n rising below = (All-nil (IsAbove n), tt)
rising_more (m ∷ numbers) n rising below =
    (All-append (IsAbove m) numbers (n ∷ []) rising.0 (All-cons (IsAbove m) n [] (All-head (λ k. k < n) m numbers below) (All-nil (IsAbove m))), rising_more numbers n rising.1 (All-tail (λ k. k < n) m numbers below))

pub IsBeside-trans : (a b c : DeviceView) → IsBeside a b → IsBeside b c → IsBeside a c
IsBeside-trans a b c p q = record {
  same_rules = q.same_rules ∙ p.same_rules;
  same_packets = IsPermutation-trans _ _ _ q.same_packets p.same_packets;
  same_rooms = λ spot. q.same_rooms spot ∙ p.same_rooms spot;
  same_submitted = q.same_submitted ∙ p.same_submitted;
  same_most = q.same_most ∙ p.same_most;
  same_places = q.same_places ∙ p.same_places;
  same_adapter = q.same_adapter ∙ p.same_adapter;
}

-- none yet
pub cancels_none : (below : DeviceView) (tables : Tables) (handle : ℕ) → CancelsAll below tables handle below tables
cancels_none below tables handle = record {
  numbers = [];
  rising = tt;
  each = All-nil (IsUnmarked tables.requests handle);
  below_rest = All-nil (IsBelowUnmarked tables.requests handle);
  kept = λ slot request there. inl there;
  free = λ slot none. none;
  counted = refl;
  slots = refl;
  same_holders = refl;
  tells = sym (append-nil tables.labels.items);
  label_places = (refl, refl, refl);
  after = refl;
  run = IsSame-refl below.state;
  beside = record { same_rules = refl; same_packets = IsPermutation-refl _; same_rooms = λ spot. refl; same_submitted = refl; same_most = refl; same_places = refl; same_adapter = refl };
}

module _ {w : Bool} (below0 : DeviceView) (tables0 : Tables) (handle : ℕ) (below : DeviceView) (tables : Tables) (h : CancelsAll below0 tables0 handle below tables) (slot : ℕ) (low : IsLowestToMark tables.requests handle slot)
    (below' : DeviceView) (tables' : Tables) (c : CancelsSlot below tables slot below' tables') (held : AreHeld w tables.requests below.state.requests) (free : IsNone below.state.owed) where
  abbrev n : ℕ
  n = low.request.number

  -- the entry that is marked is the lowest
  same_entry : c.marks.request ≡ low.request
  same_entry = same_item c.marks.request low.request (sym c.marks.there ∙ low.there)

  number_is : c.place.number ≡ n
  number_is = ap (λ (p : PacketBelow). p.number) c.marks.is_place ∙ ap (λ (r : OpenRequest). r.number) same_entry

  marked_now : get tables'.requests slot ≡ Some (as_marked low.request)
  marked_now = c.marks.marks.changed ∙ ap (λ r. Some (as_marked r)) same_entry

  -- it was there at first, and was not cancelled
  at_first : get tables0.requests slot ≡ Some low.request
  at_first = by_slot (get tables0.requests slot) refl
    where
      by_slot : (x : Option OpenRequest) → get tables0.requests slot ≡ x → get tables0.requests slot ≡ Some low.request
      by_slot None none = let e : None ≡ Some low.request = sym (h.free slot none) ∙ low.there in cc (e)
      by_slot (Some y) there = elim (h.kept slot y there) [
        | inl same ↦ there ∙ sym same ∙ low.there
        | inr marked ↦
            let is : as_marked y ≡ low.request = same_item (as_marked y) low.request (sym marked.0 ∙ low.there) in
            let e : true ≡ false = ap (λ (r : OpenRequest). r.cancelled) is ∙ low.not_yet in
            cc (e)
      ]

  unmarked : IsUnmarked tables0.requests handle n
  unmarked = record { slot = slot; request = low.request; there = at_first; of_handle = low.of_handle; is_number = refl; not_yet = low.not_yet }

  -- what is not cancelled after it was not before, and stands elsewhere
  elsewhere : (other : ℕ) (x : OpenRequest) → get tables'.requests other ≡ Some x → x.cancelled ≡ false → (other ≢ slot) × (get tables.requests other ≡ Some x)
  elsewhere other x there not_yet =
      let apart : other ≢ slot = λ same.
      let is : as_marked low.request ≡ x = same_item (as_marked low.request) x (sym marked_now ∙ ap (get tables'.requests) (sym same) ∙ there) in
      let e : true ≡ false = ap (λ (r : OpenRequest). r.cancelled) is ∙ not_yet in
      cc (e) in
      (apart, sym (c.marks.marks.others other apart) ∙ there)

  still_below : (m : ℕ) → IsBelowUnmarked tables.requests handle m → IsBelowUnmarked tables'.requests handle m
  still_below m k other x there of_handle not_yet = k other x (elsewhere other x there not_yet).1 of_handle not_yet

  now_below : IsBelowUnmarked tables'.requests handle n
  now_below other x there of_handle not_yet =
      let before : (other ≢ slot) × (get tables.requests other ≡ Some x) = elsewhere other x there not_yet in
      let least : n ≤ x.number = low.lowest other x before.1 of_handle not_yet in
      let differs : n ≢ x.number = λ same. before.0 (held.one_slot other slot x low.request before.1 low.there (sym same)) in
      omega (arith, least, differs)

  kept_more : (other : ℕ) (y : OpenRequest) → get tables0.requests other ≡ Some y
      → (get tables'.requests other ≡ Some y) ⊎ ((get tables'.requests other ≡ Some (as_marked y)) × Contains (h.numbers ++ n ∷ []) y.number)
  kept_more other y there = elim (cases_eq other slot) [
    | inl same ↦
        let is : y ≡ low.request = same_item y low.request (sym there ∙ ap (get tables0.requests) same ∙ at_first) in
        inr (
          ap (get tables'.requests) same ∙ marked_now ∙ ap (λ r. Some (as_marked r)) (sym is),
          subst (Contains (h.numbers ++ n ∷ [])) (ap (λ (r : OpenRequest). r.number) (sym is)) (Contains-append_right h.numbers (n ∷ []) n (0, omega arith, refl)),
        )
    | inr apart ↦ elim (h.kept other y there) [
      | inl still ↦ inl (c.marks.marks.others other apart ∙ still)
      | inr marked ↦ inr (c.marks.marks.others other apart ∙ marked.0, Contains-append_left h.numbers (n ∷ []) y.number marked.1)
    ]
  ]

  still_free : (other : ℕ) → get tables0.requests other ≡ None → get tables'.requests other ≡ None
  still_free other none =
      let apart : other ≢ slot = λ same. let e : None ≡ Some low.request = sym (h.free other none) ∙ ap (get tables.requests) same ∙ low.there in cc (e) in
      c.marks.marks.others other apart ∙ h.free other none

  told_more : tables'.labels.items ≡ tables0.labels.items ++ map as_cancel (h.numbers ++ n ∷ [])
  told_more =
      c.marks.tells
      ∙ ap (λ before. before ++ as_cancel c.marks.request.number ∷ []) h.tells
      ∙ ap (λ m. (tables0.labels.items ++ map as_cancel h.numbers) ++ as_cancel m ∷ []) (ap (λ (r : OpenRequest). r.number) same_entry)
      ∙ append_assoc tables0.labels.items (map as_cancel h.numbers) (as_cancel n ∷ [])
      ∙ ap (λ more. tables0.labels.items ++ more) (sym (map-append as_cancel h.numbers (n ∷ [])))

  run_more : Run below0.rules below0.state (map as_cancel (h.numbers ++ n ∷ [])) below'.state
  run_more =
      let cancels : Cancels below.state n below'.state = subst (λ m. Cancels below.state m below'.state) number_is c.cancels in
      subst (λ labels. Run below0.rules below0.state labels below'.state) (sym (map-append as_cancel h.numbers (n ∷ [])))
      (Run-append below0.rules below0.state (map as_cancel h.numbers) below.state (as_cancel n ∷ []) below'.state h.run (below'.state, inl (free, cancels), IsSame-refl below'.state))

  pub cancels_more : CancelsAll below0 tables0 handle below' tables'
  cancels_more = record {
    numbers = h.numbers ++ n ∷ [];
    rising =
        rising_more h.numbers n h.rising
        (All-weaker (IsBelowUnmarked tables.requests handle) (λ m. m < n) (λ m k. k slot low.request low.there low.of_handle low.not_yet) h.numbers h.below_rest);
    each = All-append (IsUnmarked tables0.requests handle) h.numbers (n ∷ []) h.each (All-cons (IsUnmarked tables0.requests handle) n [] unmarked (All-nil (IsUnmarked tables0.requests handle)));
    below_rest =
        All-append (IsBelowUnmarked tables'.requests handle) h.numbers (n ∷ [])
        (All-weaker (IsBelowUnmarked tables.requests handle) (IsBelowUnmarked tables'.requests handle) still_below h.numbers h.below_rest)
        (All-cons (IsBelowUnmarked tables'.requests handle) n [] now_below (All-nil (IsBelowUnmarked tables'.requests handle)));
    kept = kept_more;
    free = still_free;
    counted = c.marks.counted ∙ h.counted;
    slots = c.marks.slots ∙ h.slots;
    same_holders = holders_same tables.requests tables'.requests slot c.marks.request c.marks.there c.marks.slots_are ∙ h.same_holders;
    tells = told_more;
    label_places = (c.marks.label_places.0 ∙ h.label_places.0, c.marks.label_places.1 ∙ h.label_places.1, c.marks.label_places.2 ∙ h.label_places.2);
    after = c.marks.after ∙ ap (λ (t : Tables). record t { requests = tables'.requests; chains = tables'.chains; labels = tables'.labels }) h.after;
    run = run_more;
    beside = IsBeside-trans below0 below below' h.beside c.beside;
  }
