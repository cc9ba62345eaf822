-- The tables stay sound when a request is opened and its packet goes down.
use Rattle.std.proofs.Common.{◌≡◌, ◌≢◌, ◌<◌, ◌≤◌, ◌⊎◌, inl, inr, ℕ, ◌+◌, ◌*◌, ◌/◌, Bool, true, false, List, ◌∷◌, Option, Some, None, refl, sym, ◌∙◌, ap, subst, arith, length, map}
use Rattle.std.specs.Prelude.{IsTrue, IsFalse, All, Contains, is_some}
use Rattle.io_manager.proofs.Common.{deque_len, deque_capacity, cases_eq, All-cons, All-weaker, All-contains, All-map, Contains-cons, Extent, Read, ClientRequest, Rules, as_client, home, Opens, new_request, request_number, IsGiven, AreDistinct, taken_in, DeviceView, Packet, sent_bytes, sectors_asked, IsTopmost, IsSame-sym, Handle, Limits, LabelBytes, Tables, number_limit, disk_extent, IsOpenIn, rules_of}
use Rattle.slab.specs.Slab.{Slab, get, slab_len, Updates as SlabUpdates}
use Rattle.machine.specs.State.{OpenRequest as OpenBelow, State}
use Rattle.pnp.specs.declared.State.{State as PnpState}
use Rattle.pnp.specs.declared.State.TheVariants.{Started, RemovePending, Removing, Removed}
use Rattle.io_manager.specs.declared.Answer.{Answer}
use Rattle.io_manager.specs.declared.tables.OpenRequest.{OpenRequest}
use Rattle.io_manager.specs.inside.Ordering.{HasOtherNumber}
use Rattle.io_manager.specs.inside.Sound.{shown_state, is_gone, view_of, IsHeldAt, AreHeld, IsSpotted, WasGiven, AreApart, IsInState, IsSound}
use Rattle.io_manager.specs.inside.Admitting.{request_of, answer_room_of, HasLabelBytes, Admits, SendsDown, IsAdmissible}
use Rattle.io_manager.proofs.Chained.{AreChained-more}
use Rattle.io_manager.proofs.Numbered.{AreNumbered-more}
use Rattle.io_manager.proofs.Counted.{AreCounted-more}
use Rattle.io_manager.proofs.Askings.{KeepsAsked-same, asks_same, AreHeld-along}
use Rattle.io_manager.proofs.Fitted.{FitsBelow-same}
use Rattle.io_manager.proofs.Righting.{IsSound-moves}
use Rattle.io_manager.proofs.Handing.{numbers_last}
use Rattle.io_manager.proofs.Fitting.{AsksBy, asks_whole, free_place}

-- a slot in use is another than the one that was free
other_slot : {X : Type 0} (table : Slab X) (slot free : ℕ) (item : X) → get table slot ≡ Some item → get table free ≡ None → slot ≢ free
other_slot table slot free item there none same = let e : Some item ≡ None = sym there ∙ ap (get table) same ∙ none in cc (e)

-- what a slot holds after one more was filled: the new item, or what it held
cases_held : {X : Type 0} (old new : Slab X) (slot : ℕ) (item : X) → SlabUpdates old new slot (Some item) → (other : ℕ) (there : X) → get new other ≡ Some there
    → ((other ≡ slot) × (item ≡ there)) ⊎ ((other ≢ slot) × (get old other ≡ Some there))
cases_held old new slot item updates other there h = elim (cases_eq other slot) [
  | inl same ↦ let e : Some item ≡ Some there = sym updates.changed ∙ ap (get new) (sym same) ∙ h in inl (same, cc (e))
  | inr apart ↦ inr (apart, sym (updates.others other apart) ∙ h)
]

held_still : {w : Bool} (old new : Slab OpenRequest) (slot : ℕ) (entry : OpenRequest) → get old slot ≡ None → SlabUpdates old new slot (Some entry) → (o : OpenBelow) → IsHeldAt w old o → IsHeldAt w new o
held_still old new slot entry free updates o h = record {
  slot = h.slot;
  request = h.request;
  there = updates.others h.slot (other_slot old h.slot slot h.request h.there free) ∙ h.there;
  same_number = h.same_number;
  same_kind = h.same_kind;
  same_cancelled = h.same_cancelled;
  has_partition = h.has_partition;
  label_bytes = h.label_bytes;
}

-- the numbers in the table were given
was_given : {w : Bool} (requests : Slab OpenRequest) (below : List OpenBelow) (next : ℕ) → All (IsGiven next) below → AreHeld w requests below → (slot : ℕ) (request : OpenRequest) → get requests slot ≡ Some request
    → request.number < next
was_given requests below next given h slot request there =
    All-contains (λ n. n < next) (map request_number below) request.number (All-map (λ n. n < next) request_number below given) (h.is_open slot request there)

-- the packets below and the one of the new request are where the table has them
AreSpotted-more : (old new : Slab OpenRequest) (slot : ℕ) (entry : OpenRequest) (packet : Packet) (packets : List Packet) → SlabUpdates old new slot (Some entry)
    → ((other : ℕ) (request : OpenRequest) → get old other ≡ Some request → request.number < entry.number) → packet.number ≡ entry.number → packet.spot ≡ entry.spot
    → All (IsSpotted entry.number old) packets → All (IsSpotted (entry.number + 1) new) (packet ∷ packets)
AreSpotted-more old new slot entry packet packets updates before number spot h =
    All-cons (IsSpotted (entry.number + 1) new) packet packets (record { given = omega arith; spot = at_new })
    (All-weaker (IsSpotted entry.number old) (IsSpotted (entry.number + 1) new) still packets h)
  where
    at_new : (other : ℕ) (request : OpenRequest) → get new other ≡ Some request → request.number ≡ packet.number → packet.spot ≡ request.spot
    at_new other request there same = elim (cases_held old new slot entry updates other request there) [
      | inl (at, is) ↦ spot ∙ ap (λ (e : OpenRequest). e.spot) is
      | inr (apart, there') ↦ let low : request.number < entry.number = before other request there' in absurd (omega arith)
    ]

    still : (p : Packet) → IsSpotted entry.number old p → IsSpotted (entry.number + 1) new p
    still p s = record {
      given = let low : p.number < entry.number = s.given in omega arith;
      spot = λ other request there same. elim (cases_held old new slot entry updates other request there) [
        | inl (at, is) ↦
            let low : p.number < entry.number = s.given in
            let e : entry.number ≡ request.number = ap (λ (e : OpenRequest). e.number) is in
            absurd (omega arith)
        | inr (apart, there') ↦ s.spot other request there' same
      ];
    }

-- one more request is open below and in the table
AreHeld-more : {w : Bool} (old new : Slab OpenRequest) (slot : ℕ) (entry : OpenRequest) (opened : OpenBelow) (below : List OpenBelow) (next : ℕ) → get old slot ≡ None → SlabUpdates old new slot (Some entry)
    → slab_len new ≡ slab_len old + 1 → entry.number ≡ opened.number → entry.kind ≡ opened.request.kind → entry.cancelled ≡ opened.cancelled → is_some opened.request.partition ≡ true → (IsTrue w → opened.request.kind ≡ Read → opened.request.length ≤ entry.label_bytes)
    → All (IsGiven next) below → next ≤ entry.number → AreHeld w old below → AreHeld w new (opened ∷ below)
AreHeld-more old new slot entry opened below next free updates counted number kind cancelled partition label_bytes given later h =
    record {
      held =
          All-cons (IsHeldAt _ new) opened below
          (record { slot = slot; request = entry; there = updates.changed; same_number = number; same_kind = kind; same_cancelled = cancelled; has_partition = partition; label_bytes = label_bytes })
          (All-weaker (IsHeldAt _ old) (IsHeldAt _ new) (held_still old new slot entry free updates) below h.held);
      is_open = λ other request there. elim (cases_held old new slot entry updates other request there) [
        | inl (same, is) ↦ at_first (map request_number below) (sym (ap (λ (e : OpenRequest). e.number) is) ∙ number)
        | inr (apart, before) ↦ Contains-cons opened.number request.number (map request_number below) (h.is_open other request before)
      ];
      one_slot = λ a b first second at_a at_b same.
          only (cases_held old new slot entry updates a first at_a) (cases_held old new slot entry updates b second at_b) same;
      counted = let before : slab_len old ≡ length below = h.counted in omega arith;
    }
  where
    at_first : {n m : ℕ} (more : List ℕ) → m ≡ n → Contains (n ∷ more) m
    at_first {n} {m} more e = subst (λ k. Contains (n ∷ more) k) (sym e) (0, omega arith, refl)

    before_it : (a : ℕ) (request : OpenRequest) → get old a ≡ Some request → request.number < entry.number
    before_it a request there = let low : request.number < next = was_given old below next given h a request there in omega arith

    only : {a b : ℕ} {first second : OpenRequest} → ((a ≡ slot) × (entry ≡ first)) ⊎ ((a ≢ slot) × (get old a ≡ Some first))
        → ((b ≡ slot) × (entry ≡ second)) ⊎ ((b ≢ slot) × (get old b ≡ Some second)) → first.number ≡ second.number → a ≡ b
    only (inl (same_a, is_a)) (inl (same_b, is_b)) same = same_a ∙ sym same_b
    only {a} {b} {first} {second} (inl (same_a, is_a)) (inr (apart, there)) same =
        let low : second.number < entry.number = before_it b second there in let e : entry.number ≡ first.number = ap (λ (e : OpenRequest). e.number) is_a in absurd (omega arith)
    only {a} {b} {first} {second} (inr (apart, there)) (inl (same_b, is_b)) same =
        let low : first.number < entry.number = before_it a first there in let e : entry.number ≡ second.number = ap (λ (e : OpenRequest). e.number) is_b in absurd (omega arith)
    only {a} {b} {first} {second} (inr (apart_a, at_a)) (inr (apart_b, at_b)) same = h.one_slot a b first second at_a at_b same

-- no answer that waits is the new request's
AreApart-more : (old new : Slab OpenRequest) (slot : ℕ) (entry : OpenRequest) (answers : List Answer) → SlabUpdates old new slot (Some entry)
    → All (WasGiven entry.number) answers → AreApart old answers → AreApart new answers
AreApart-more old new slot entry answers updates before h = λ other request there. elim (cases_held old new slot entry updates other request there) [
  | inl (same, is) ↦ subst (λ (e : OpenRequest). All (HasOtherNumber e.number) answers) is (All-weaker (WasGiven entry.number) (HasOtherNumber entry.number) (λ answer low same'. absurd (omega arith)) answers before)
  | inr (apart, still) ↦ h other request still
]

module _ (limits : Limits) (below : DeviceView) (tables : Tables) (q : ClientRequest) (h : IsSound limits below tables) (k : IsAdmissible (view_of limits below tables) q) where
  abbrev over : Rules
  over = rules_of limits below.rules

  abbrev gone : Bool
  gone = is_gone tables.state

  -- the request as its call tells it
  abbrev pub as_told : List ℕ → ClientRequest
  as_told bytes = record q { bytes = bytes }

  -- what the layer below asks is what the client called
  pub as_asked : (bytes : List ℕ) → as_client below.rules (request_of limits.sector_size q) bytes ≡ as_told bytes
  as_asked bytes =
      let asks : AsksBy below.rules q limits.sector_size = asks_whole limits below tables q h k in
      ap (λ p. record q { partition = p; offset = q.offset / limits.sector_size * below.rules.sector_size; length = q.length / limits.sector_size * below.rules.sector_size; bytes = bytes }) asks.on_partition
      ∙ ap (λ n. record q { offset = n; length = q.length / limits.sector_size * below.rules.sector_size; bytes = bytes }) (sym asks.offset)
      ∙ ap (λ n. record q { length = n; bytes = bytes }) (sym asks.length_is)

  abbrev extent_at : Option ℕ → ℕ → Extent
  extent_at partition size = record { first = home below.rules partition (q.offset / size); count = q.length / size }

  -- and the sectors of the disk that it asks for are the call's
  pub asked_sectors : sectors_asked below.rules (request_of limits.sector_size q) ≡ disk_extent over q
  asked_sectors =
      let asks : AsksBy below.rules q limits.sector_size = asks_whole limits below tables q h k in
      ap (λ p. extent_at p limits.sector_size) asks.on_partition ∙ ap (extent_at q.partition) h.fits.sector_size

  -- what the machine below opens, the manager's opens
  pub opened_above : (number : ℕ) (bytes : List ℕ) (opened : State) → number ≡ tables.next_request → Opens below.rules below.state number (as_client below.rules (request_of limits.sector_size q) bytes) opened
      → Opens over (shown_state tables.next_request gone below.state) tables.next_request (as_told bytes) (shown_state (tables.next_request + 1) gone opened)
  opened_above number bytes opened same opens' =
      let opens : Opens below.rules below.state tables.next_request (as_told bytes) opened =
      subst (λ r. Opens below.rules below.state tables.next_request r opened) (as_asked bytes) (subst (λ n. Opens below.rules below.state n (as_client below.rules (request_of limits.sector_size q) bytes) opened) same opens') in
      record {
        new_number = omega arith;
        not_refused = k.not_refused;
        carries = opens.carries;
        after = record {
          arrays = opens.after.arrays;
          next_request = refl;
          next_piece = opens.after.next_piece;
          requests = opens.after.requests;
          pieces = opens.after.pieces;
          owed = opens.after.owed;
          paused = opens.after.paused;
          removing = opens.after.removing;
          removed = refl;
        };
      }

  pub admitted_sound : (handle : Handle) (copies : LabelBytes) (spot slot : ℕ) (tables1 : Tables) (buffer : List ℕ) (below1 : DeviceView) → AreDistinct below.state → IsOpenIn tables.handles handle.slot handle.number → HasLabelBytes tables.labels.keeps tables.labels.keeps_bytes q.kind buffer copies → q.length ≡ length buffer
      → deque_len tables.untaken + (slab_len tables.requests + 1) ≤ deque_capacity tables.untaken → Admits tables handle q copies spot slot tables1
      → SendsDown below tables.next_request spot (request_of limits.sector_size q) buffer below1 → IsSound limits below1 tables1
  admitted_sound handle copies spot slot tables1 buffer below1 distinct is_open buffers same_length place admits sends =
      subst (IsSound limits below1) (sym admits.after)
      (IsSound-moves limits (record below { state = sends.submits.opened; packets = sends.packet ∷ below.packets; rooms = below1.rooms; submitted = below.submitted + 1 })
      (record tables { next_request = tables.next_request + 1; requests = tables1.requests; chains = tables1.chains; by_number = tables1.by_number; open_counts = tables1.open_counts; labels = tables1.labels }) sends.submits.starts below1 opened sends.submits.moves)
    where
      asked : ClientRequest
      asked = as_client below.rules (request_of limits.sector_size q) (sent_bytes q.kind sends.payload)

      slot_low : slot < 64
      slot_low = let low : slot < tables.requests.capacity = admits.in_range in let slots : tables.requests.capacity ≡ limits.open_requests = h.places.requests in let few : limits.open_requests ≤ 64 = h.fits.some_open.1 in omega (arith, low, slots, few)

      number_given : (other : ℕ) (request : OpenRequest) → get tables.requests other ≡ Some request → request.number < tables.next_request
      number_given other request there =
          let given : request.number < below.state.next_request = was_given tables.requests below.state.requests below.state.next_request distinct.given h.held other request there in
          let rising : below.state.next_request ≤ tables.next_request = h.numbers.rising in
          omega (arith, given, rising)

      -- it was not removing, so a place was left
      in_state_opened : (p : PnpState) → IsInState p below.state → IsInState p sends.submits.opened
      in_state_opened Started s = (subst IsFalse (sym sends.submits.opens.after.paused) s.0, subst IsFalse (sym sends.submits.opens.after.removing) s.1)
      in_state_opened RemovePending s = (subst IsTrue (sym sends.submits.opens.after.paused) s.0, subst IsFalse (sym sends.submits.opens.after.removing) s.1)
      in_state_opened Removing s = absurd (stays s.1)
        where
          stays : IsTrue below.state.removing → ⊥
          stays removing = let e : below.state.removing ≡ false = (taken_in over (view_of limits below tables).state q k.not_refused).staying in cc (e, removing)
      in_state_opened Removed s = absurd (stays s.1)
        where
          stays : IsTrue below.state.removing → ⊥
          stays removing = let e : below.state.removing ≡ false = (taken_in over (view_of limits below tables).state q k.not_refused).staying in cc (e, removing)

      opened : IsSound limits (record below { state = sends.submits.opened; packets = sends.packet ∷ below.packets; rooms = below1.rooms; submitted = below.submitted + 1 })
          (record tables { next_request = tables.next_request + 1; requests = tables1.requests; chains = tables1.chains; by_number = tables1.by_number; open_counts = tables1.open_counts; labels = tables1.labels })
      opened =
          let last : tables.next_request < number_limit = numbers_last tables.next_request k.numbers_last in
          let rising : below.state.next_request ≤ tables.next_request = h.numbers.rising in
          let submitted : below.submitted ≤ tables.next_request = h.numbers.submitted in
          let free : slab_len tables.requests < limits.open_requests = free_place limits below tables q h k in
          let counted : slab_len tables1.requests ≡ slab_len tables.requests + 1 = admits.counted in
          let number : sends.packet.number ≡ tables.next_request = sends.is_number in
          let after : sends.submits.opened.next_request ≡ sends.packet.number + 1 = sends.submits.opens.after.next_request in
          let labels : tables1.labels.places ≡ tables.labels.places = admits.label_places.0 in
          let slots : tables1.requests.capacity ≡ tables.requests.capacity = admits.slots in
          let asks : AsksBy below.rules q limits.sector_size = asks_whole limits below tables q h k in
          record {
            fits = FitsBelow-same limits below (record below { state = sends.submits.opened; packets = sends.packet ∷ below.packets; rooms = below1.rooms; submitted = below.submitted + 1 }) refl refl h.fits;
            numbers = record { requests = omega arith; handles = h.numbers.handles; rising = omega arith; submitted = omega arith };
            held =
                AreHeld-along tables1.requests
                (record below.state { next_request = sends.packet.number + 1; requests = new_request below.rules below.state sends.packet.number asked ∷ below.state.requests }) sends.submits.opened
                (asks_same _ _ (KeepsAsked-same _ _ (IsSame-sym _ _ sends.submits.opens.after)))
                (AreHeld-more tables.requests tables1.requests slot _ (new_request below.rules below.state sends.packet.number asked) below.state.requests below.state.next_request admits.was_free admits.holds counted (sym number) refl refl refl
                (λ kept reads. subst (λ n. n ≤ copies.label_bytes) (sym same_length ∙ asks.length_is) (let e : copies.label_bytes ≡ length buffer = buffers.label_bytes (h.places.label_bytes ∙ kept) ∙ ap (λ kind. answer_room_of kind (length buffer)) reads in omega (arith, e))) distinct.given h.numbers.rising h.held);
            few = omega arith;
            places = record {
              labels = labels ∙ h.places.labels;
              answered = h.places.answered;
              alike = h.places.alike ∙ sym admits.label_places.1;
              label_bytes = admits.label_places.2 ∙ h.places.label_bytes;
              answer_bytes = h.places.answer_bytes;
              untaken = subst (λ count. deque_len tables.untaken + count ≤ deque_capacity tables.untaken) (sym counted) place;
              handles = h.places.handles;
              requests = slots ∙ h.places.requests;
            };
            on_map = h.on_map;
            topmost = All-cons IsTopmost sends.packet below.packets sends.topmost h.topmost;
            spots =
                AreSpotted-more tables.requests tables1.requests slot _ sends.packet below.packets admits.holds
                number_given number sends.is_spot h.spots;
            in_state = in_state_opened tables.state h.in_state;
            none_put_by = h.none_put_by;
            rising = h.rising;
            given = All-weaker (WasGiven tables.next_request) (WasGiven (tables.next_request + 1)) (λ answer low. omega arith) tables.untaken.items h.given;
            apart = AreApart-more tables.requests tables1.requests slot _ tables.untaken.items admits.holds h.given h.apart;
            chained =
                AreChained-more tables.handles tables.requests tables1.requests tables.next_handle tables.chains tables1.chains h.chained slot _ is_open refl admits.was_free
                slot_low admits.holds number_given admits.chains;
            numbered =
                AreNumbered-more tables.requests tables1.requests tables.by_number tables1.by_number h.numbered slot _ admits.was_free
                slot_low admits.holds number_given admits.by_number;
            counted =
                AreCounted-more tables.handles tables.requests tables1.requests tables.next_handle tables.chains h.chained tables.open_counts tables1.open_counts h.counted slot _ is_open admits.was_free
                slot_low admits.holds admits.counts;
          }
