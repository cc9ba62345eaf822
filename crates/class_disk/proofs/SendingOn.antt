-- One part more of a request that is being opened is sent.
use Rattle.std.proofs.Common.{◌≡◌, ◌≢◌, ◌<◌, ◌≤◌, ◌⊎◌, inl, inr, ℕ, zero, suc, ◌+◌, ◌==◌, false, List, [], ◌∷◌, ◌++◌, Some, refl, sym, ◌∙◌, ap, subst, arith, length, length-append, map, drop, take, get_or, replicate}
use Rattle.std.specs.Prelude.{IsPermutation, All, Any, Contains, slice_set, slice_range, if◌then◌else◌}
use Rattle.class_disk.proofs.Common.{room_in_all, range_with_len, take-append_seam, take-append-add, drop-append-add, map-append, IsPermutation-sym, IsPermutation-trans, IsPermutation-cons, IsPermutation-middle, IsPermutation-map, All-permutation, Contains-permutation, All-nil, All-cons, All-head, All-tail, All-append, All-contains, Contains-append_cases, Contains-append_left, Contains-append_right, DeviceLabel, Payload, ClientRequest, Write, Request, Rules, place_count, as_client, Untouched, State, Opens, new_request, IsGiven, request_number, Run, as_label, IsPermutation-uncons, DeviceView, Packet, IsOrderly, packet_of, packet_number, payload_bytes, sent_bytes, IsTopmost, whole_for, Submits, IsAt, Progress, part_count_of, part_request_of, goes_whole, data_length, note, note_by, known, knowns, tickets, tickets_held, tickets_open, packet_above, request_of_part, IsReadyPart, IsAsked, IsAskedBy, IsSpotted, IsSpottedBy, IsBuffered, IsWritten, most_over, AllOut, IsPartOf, Note, Sent, Kept, Known, below_rules, IsNothing, IsOver, HasSome, IsTaking, GoesOn, IsOpening, OpeningSoFar, SendsDown, IsDown, restarts_of, class_rules, sent_part, bytes_from}
use Rattle.class_disk.specs.declared.parts.Part.{Part}
use Rattle.class_disk.specs.declared.parts.Progress.TheVariants.{Ready, Below, Ended as HasEnded}
use Rattle.class_disk.specs.inside.TableView.{Opened, TableView, opened, all_open, ended_in, restarts_left, open_at, put_at}
use Rattle.class_disk.specs.inside.Owners.{IsOwnedBy, AreOwnedFrom}
use Rattle.class_disk.proofs.Rooms.{out_less}
use Rattle.class_disk.proofs.Acting.{map_there}
use Rattle.class_disk.proofs.Asking.{asks_own, asks_run, asks_submitted}
use Rattle.class_disk.proofs.Changing.{restarts-append}
use Rattle.class_disk.proofs.Owned.{owned_split, owned_joined}
use Rattle.class_disk.proofs.CoupledRun.{Contains-map}
use Rattle.class_disk.proofs.Ending.{ended_submitted}
use Rattle.class_disk.proofs.FirstSending.{sent_first, noted_places}
use Rattle.class_disk.proofs.NewParts.{part_kind}
use Rattle.class_disk.proofs.NewRequest.{taking_permuted, places_for}
use Rattle.class_disk.proofs.Noting.{tickets_of-append, tickets_open-append, left-append}
use Rattle.class_disk.proofs.OnlyPart.{lent_next}
use Rattle.class_disk.proofs.Parting.{found_same}
use Rattle.class_disk.proofs.PartPlaces.{part_lies, ready_here, ready_total}
use Rattle.class_disk.proofs.PiecePlaces.{asked_behind, places_some}
use Rattle.class_disk.proofs.ReadyParts.{IsReadyWith, part, with_place, place, behind_ready, halves, stands, limit, asks, long, part_bounded, ticket, rooms_left, room_out}
use Rattle.class_disk.proofs.Resending.{run_keeps, none_above}
use Rattle.class_disk.proofs.Retaking.{known_at}
use Rattle.class_disk.proofs.Standing.{StandsIn, AreRising, is_put, is_found, set_there, All-middle}
use Rattle.class_disk.proofs.Submitting.{total}
use Rattle.class_disk.proofs.PortRules.{port_rules}

-- another item is changed
beside : {X : Type 0} (xs ys : List X) (x x' e : X) → (x ≡ e → ⊥) → Contains (xs ++ (x ∷ ys)) e → Contains (xs ++ (x' ∷ ys)) e
beside xs ys x x' e other c = by (Contains-append_cases xs (x ∷ ys) e c)
  where
    by : Contains xs e ⊎ Contains (x ∷ ys) e → Contains (xs ++ (x' ∷ ys)) e
    by (inl near) = Contains-append_left xs (x' ∷ ys) e near
    by (inr (zero, low, is)) = absurd (other is)
    by (inr (suc i, low, is)) = Contains-append_right xs (x' ∷ ys) e (suc i, omega arith, is)

module _ {v : DeviceView}
    {b : TableView} {slot k : ℕ}
    (h : IsOpening v b slot k) (ordered : IsOrderly v) (rise : AreRising 0 b.opens) (low : k < length h.o.parts)
    (v' : DeviceView) (b' : TableView) (x : SendsDown v b slot k h.o (part h ordered rise low) (place h ordered rise low) v' b') where
  abbrev rules : Rules
  rules = class_rules v.rules

  abbrev pub old_part : Part
  old_part = part h ordered rise low

  abbrev its : IsReadyWith old_part
  its = with_place h ordered rise low

  abbrev front : List Part
  front = (halves h ordered rise low).0

  abbrev back : List Part
  back = (halves h ordered rise low).1

  abbrev parts_are : h.o.parts ≡ front ++ (old_part ∷ back)
  parts_are = (halves h ordered rise low).2

  abbrev at_place : length front ≡ k
  at_place = (halves h ordered rise low).3

  abbrev s : StandsIn b.opens slot h.o
  s = stands h ordered rise low

  abbrev pub number : ℕ
  number = x.packet.irp.value.number

  -- its spot below
  abbrev pub spot : ℕ
  spot = (place h ordered rise low).packet.room.spot

  abbrev packet : Packet
  packet = packet_of x.packet.irp.value spot

  abbrev pub new_part : Part
  new_part = sent_part number spot old_part

  abbrev o_next : Opened
  o_next = record h.o { parts = front ++ (new_part ∷ back); lent = length h.o.parts == 1 }

  abbrev b_next : TableView
  b_next = record b { opens = s.before ++ ((slot, o_next) ∷ s.after); next_packet = b.next_packet + 1 }

  -- THE TABLE

  number_is : number ≡ b.next_packet
  number_is = x.sends.sends.own.is_number

  set_part : (o : Opened) (old p : Part) → o.parts ≡ front ++ (old ∷ back) → slice_set o.parts k p ≡ front ++ (p ∷ back)
  set_part o old p is = ap (λ ps. slice_set ps k p) is ∙ ap (λ n. slice_set (front ++ (old ∷ back)) n p) (sym at_place) ∙ set_there front old p back

  next_is : x.sends.o' ≡ o_next
  next_is =
      x.sends.sends.after ∙ ap (λ ps. record h.o { parts = ps; lent = length h.o.parts == 1 }) (set_part h.o old_part _ parts_are)
      ∙ ap (λ n. record h.o { parts = front ++ (sent_part n spot old_part ∷ back); lent = length h.o.parts == 1 }) (sym number_is)

  pub books_are : b' ≡ b_next
  books_are =
      x.sends.after ∙ ap (λ o. record b { opens = put_at slot o b.opens; next_packet = b.next_packet + 1 }) next_is
      ∙ ap (λ es. record b { opens = es; next_packet = b.next_packet + 1 }) (is_put b.opens slot h.o s o_next)

  abbrev stands_next : StandsIn b_next.opens slot o_next
  stands_next = record { before = s.before; after = s.after; opens_are = refl; apart = s.apart }

  -- each other request stays in the table
  pub table_on : (e : ℕ × Opened) → e.0 ≢ slot → Contains b.opens e → Contains b'.opens e
  table_on e apart c =
      subst (λ (d : TableView). Contains d.opens e) (sym books_are)
      (beside s.before s.after (slot, h.o) (slot, o_next) e (λ same. apart (sym (ap (λ (y : ℕ × Opened). y.0) same)))
      (subst (λ es. Contains es e) s.opens_are c))

  -- it has as many parts as before
  pub long_on : (o' : Opened) → open_at slot b'.opens ≡ Some o' → length o'.parts ≡ length h.o.parts
  long_on o' is_open =
      let found : open_at slot b'.opens ≡ Some o_next = ap (λ (c : TableView). open_at slot c.opens) books_are
      ∙ is_found b_next.opens slot o_next stands_next in
      ap (λ (e : Opened). length e.parts) (found_same _ _ _ is_open found) ∙ length-append front (new_part ∷ back)
      ∙ sym (ap length parts_are ∙ length-append front (old_part ∷ back))

  others_first : IsPermutation (s.before ++ s.after) h.others
  others_first = IsPermutation-uncons (slot, h.o) _ _
      (IsPermutation-trans _ _ _
      (IsPermutation-sym _ _ (subst (λ es. IsPermutation es ((slot, h.o) ∷ (s.before ++ s.after))) (sym s.opens_are) (IsPermutation-middle s.before (slot, h.o) s.after))) h.others_are)

  opens_next : IsPermutation b_next.opens ((slot, o_next) ∷ h.others)
  opens_next = IsPermutation-trans _ _ _ (IsPermutation-middle s.before (slot, o_next) s.after) (IsPermutation-cons _ _ _ others_first)

  -- WHAT WAS SUBMITTED BELOW

  abbrev below : Submits v packet old_part.request x.packet.irp.value.payload v'
  below = x.submits

  pub same_rules : v'.rules ≡ v.rules
  same_rules = below.moves.same_rules

  kept_run : (v'.state.next_request ≡ number + 1) × (v'.state.removing ≡ v.state.removing)
  kept_run =
      let r = run_keeps v.rules below.starts below.opened v'.state below.moves.run in
      (r.0 ∙ below.opens.after.next_request, r.1 ∙ below.opens.after.removing)

  packets_next : IsPermutation (packet ∷ v.packets) v'.packets
  packets_next = IsPermutation-sym _ _ below.moves.same_packets

  later_spot : (n spot : ℕ) → Any (IsAt spot n) v.packets → Any (IsAt spot n) v'.packets
  later_spot n spot (i, y, low', is, at) =
      let c = Contains-permutation _ _ y packets_next (suc i, omega arith, is) in
      (c.0, y, c.1, c.2, at)

  given_number : (n spot : ℕ) → Any (IsAt spot n) v.packets → n < v.state.next_request
  given_number n spot (i, y, low', is, at) =
      let c : Contains (map request_number v.state.requests) y.number =
      Contains-permutation _ _ y.number ordered.packets (Contains-map packet_number v.packets y (i, low', is)) in
      let q = map_there request_number v.state.requests y.number c in
      let given : q.0.number < v.state.next_request = All-contains (IsGiven v.state.next_request) v.state.requests q.0 ordered.distinct.given q.1 in
      let e = at.is_number in
      let f : q.0.number ≡ y.number = q.2 in
      omega arith

  asked_still : (r : Request) (p : Progress) → IsSpottedBy v.packets p → IsAskedBy rules v.state.requests r p
      → IsAskedBy rules v'.state.requests r p
  asked_still r (Ready unsent) spotted is = tt
  asked_still r (HasEnded ended) spotted is = tt
  asked_still r (Below n spot) spotted is = asks_submitted rules r n v packet old_part.request x.packet.irp.value.payload v'
      (given_number n spot spotted) is below

  spotted_still : (p : Progress) → IsSpottedBy v.packets p → IsSpottedBy v'.packets p
  spotted_still (Ready unsent) is = tt
  spotted_still (HasEnded ended) is = tt
  spotted_still (Below n spot) is = later_spot n spot is

  own_asked : IsAsked rules v'.state.requests new_part
  own_asked =
      asks_run rules old_part.request number v.rules below.starts below.opened v'.state
      (asks_own rules old_part.request number v.rules v.state _ below.opened ordered.distinct refl below.opens) below.moves.run

  own_spotted : IsSpotted v'.packets new_part
  own_spotted =
      let c = Contains-permutation _ _ packet packets_next (0, omega arith, refl) in
      (c.0, packet, c.1, c.2, record { is_spot = refl; is_number = refl })

  own_topmost : IsTopmost packet
  own_topmost = none_above x.packet.irp.value _ x.sends.sends.own.location

  -- OF EACH PART, AND OF EACH OPEN REQUEST

  each_part : (P P' : Part → Type 0) → P' new_part → ((y : Part) → P y → P' y) → All P h.o.parts → All P' (front ++ (new_part ∷ back))
  each_part P P' own other all =
      All-middle P' front old_part new_part back (λ was. own)
      (λ i d low'. other (get_or (front ++ (old_part ∷ back)) i d) (subst (All P) parts_are all i d low'))

  all_parts : (P P' : Part → Type 0) → P' new_part → ((y : Part) → P y → P' y) → All (λ (e : Opened). All P e.parts) (all_open b) → All
      (λ (e : Opened). All P' e.parts) (all_open b_next)
  all_parts P P' own other all =
      let Each : Opened → Type 0 = λ (e : Opened). All P e.parts in
      let Each' : Opened → Type 0 = λ (e : Opened). All P' e.parts in
      let first : All Each (h.o ∷ map opened h.others) = All-permutation Each _ _ (IsPermutation-map opened _ _ h.others_are) all in
      All-permutation Each' _ _ (IsPermutation-sym _ _ (IsPermutation-map opened _ _ opens_next))
      (All-cons Each' o_next (map opened h.others) (each_part P P' own other (All-head Each h.o (map opened h.others) first))
      (λ i d low' j d' low''. other _ (All-tail Each h.o (map opened h.others) first i d low' j d' low'')))

  long_next : length b_next.opens ≡ length b.opens
  long_next = length-append s.before ((slot, o_next) ∷ s.after) ∙ sym (ap length s.opens_are ∙ length-append s.before ((slot, h.o) ∷ s.after))

  left_next : restarts_left b_next.opens ≡ restarts_left b.opens
  left_next = left-append s.before ((slot, o_next) ∷ s.after) ∙ sym (ap restarts_left s.opens_are ∙ left-append s.before ((slot, h.o) ∷ s.after))

  packets_same : map packet_above b_next.opens ≡ map packet_above b.opens
  packets_same =
      map-append packet_above s.before ((slot, o_next) ∷ s.after)
      ∙ sym (ap (map packet_above) s.opens_are ∙ map-append packet_above s.before ((slot, h.o) ∷ s.after))

  ended_stay : ended_in b_next.opens ≡ ended_in b.opens
  ended_stay = same s.before ∙ sym (ap ended_in s.opens_are)
    where
      same : (es : List (ℕ × Opened)) → ended_in (es ++ ((slot, o_next) ∷ s.after)) ≡ ended_in (es ++ ((slot, h.o) ∷ s.after))
      same [] = refl
      same (e ∷ es) = ap (λ zs. if e.1.unfinished == 0 then e.0 ∷ zs else zs) (same es)

  rooms_next : tickets b_next ≡ rooms_left h ordered rise low
  rooms_next =
      let xs : List Opened = map opened s.before in
      let ys : List Opened = map opened s.after in
      ap (λ zs. tickets_held b.held ++ zs)
      (ap tickets_open (map-append opened s.before ((slot, o_next) ∷ s.after)) ∙ tickets_open-append xs (o_next ∷ ys)
      ∙ ap (λ zs. tickets_open xs ++ (zs ++ tickets_open ys)) (tickets_of-append front (new_part ∷ back)))

  -- THE PARTS SO FAR, AND THOSE BEHIND

  next_place : k + 1 ≡ length front + 1
  next_place = let e = at_place in omega arith

  behind_is : drop (k + 1) h.o.parts ≡ back
  behind_is = ap (drop (k + 1)) parts_are ∙ ap (λ n. drop n (front ++ (old_part ∷ back))) next_place ∙ drop-append-add front (old_part ∷ back) 1

  behind_next : drop (k + 1) (front ++ (new_part ∷ back)) ≡ back
  behind_next = ap (λ n. drop n (front ++ (new_part ∷ back))) next_place ∙ drop-append-add front (new_part ∷ back) 1

  before_is : take k h.o.parts ≡ front
  before_is = ap (take k) parts_are ∙ ap (λ n. take n (front ++ (old_part ∷ back))) (sym at_place) ∙ take-append_seam front (old_part ∷ back)

  before_next : take (k + 1) (front ++ (new_part ∷ back)) ≡ front ++ (new_part ∷ [])
  before_next = ap (λ n. take n (front ++ (new_part ∷ back))) next_place ∙ take-append-add front (new_part ∷ back) 1

  -- the part is below in the packet of its turn
  pub part_on : (o' : Opened) → open_at slot b'.opens ≡ Some o' → take (k + 1) o'.parts ≡ take k h.o.parts ++ (new_part ∷ [])
  part_on o' is_open =
      let found : open_at slot b'.opens ≡ Some o_next = ap (λ (c : TableView). open_at slot c.opens) books_are
      ∙ is_found b_next.opens slot o_next stands_next in
      ap (λ (e : Opened). take (k + 1) e.parts) (found_same _ _ _ is_open found) ∙ before_next ∙ ap (λ ps. ps ++ (new_part ∷ [])) (sym before_is)

  pub number_on : number ≡ b.next_packet
  number_on = number_is

  pub packets_on : b'.next_packet ≡ b.next_packet + 1
  packets_on = ap (λ (c : TableView). c.next_packet) books_are

  back_ready : All IsReadyPart back
  back_ready = subst (All IsReadyPart) behind_is (behind_ready h ordered rise low)

  back_long : length (drop k h.o.parts) ≡ suc (length back)
  back_long = ap (λ ps. length (drop k ps)) parts_are
      ∙ ap (λ n. length (drop n (front ++ (old_part ∷ back)))) (sym (let e = at_place in omega (arith, e)))
      ∙ ap length (drop-append-add front (old_part ∷ back) 0)

  owned_next : AreOwnedFrom b.owners slot 0 (front ++ (new_part ∷ back))
  owned_next =
      let n = owned_split b.owners slot 0 front (old_part ∷ back) (subst (AreOwnedFrom b.owners slot 0) parts_are h.owned) in
      owned_joined b.owners slot 0 front (new_part ∷ back) n.0 (subst (IsOwnedBy b.owners slot (0 + length front)) its.is_ready n.1.0, n.1.1)

  -- WHAT IS KNOWN

  abbrev r : Request
  r = h.o.request

  abbrev others_known : List Known
  others_known = map (known rules) (map opened h.others)

  abbrev front_notes : List Note
  front_notes = map (note rules) front

  abbrev back_notes : List Note
  back_notes = map (note rules) back

  abbrev payload : Payload
  payload = x.packet.irp.value.payload

  -- what is asked of the layer below
  abbrev q : ClientRequest
  q = as_client rules old_part.request (sent_bytes old_part.request.kind payload)

  known_old : IsPermutation (knowns rules b)
      (known_at (known rules h.o) front_notes (Kept (replicate (place_count rules q) Untouched) 0) back_notes ∷ others_known)
  known_old =
      let is : map (note rules) h.o.parts ≡ front_notes ++ (Kept (replicate (place_count rules q) Untouched) 0 ∷ back_notes) =
      ap (map (note rules)) parts_are ∙ map-append (note rules) front (old_part ∷ back) ∙ ap
      (λ p. front_notes ++ (note_by rules old_part p ∷ back_notes)) its.is_ready in
      subst (λ (ns : List Note). IsPermutation (knowns rules b) (record (known rules h.o) { parts = ns } ∷ others_known)) is
      (IsPermutation-map (known rules) _ _ (IsPermutation-map opened _ _ h.others_are))

  known_next : IsPermutation (known_at (known rules h.o) front_notes (Sent number 0) back_notes ∷ others_known) (knowns rules b_next)
  known_next =
      let is : map (note rules) (front ++ (new_part ∷ back)) ≡ front_notes ++ (Sent number 0 ∷ back_notes) =
      map-append (note rules) front (new_part ∷ back) ∙ ap (λ n. front_notes ++ (Sent number n ∷ back_notes)) its.first in
      IsPermutation-sym _ _ (subst (λ (ns : List Note). IsPermutation (knowns rules b_next) (record (known rules h.o) { parts = ns } ∷ others_known)) is
      (IsPermutation-map (known rules) _ _ (IsPermutation-map opened _ _ opens_next)))

  some_next : All (HasSome rules) (knowns rules b_next)
  some_next =
      let first : All (HasSome rules) (known rules h.o ∷ others_known) =
      All-permutation (HasSome rules) _ _ (IsPermutation-map (known rules) _ _ (IsPermutation-map opened _ _ h.others_are)) h.some in
      All-permutation (HasSome rules) _ _ (IsPermutation-sym _ _ (IsPermutation-map (known rules) _ _ (IsPermutation-map opened _ _ opens_next)))
      (All-cons (HasSome rules) (known rules o_next) others_known (All-head (HasSome rules) (known rules h.o) others_known first)
      (All-tail (HasSome rules) (known rules h.o) others_known first))

  others_some : All (HasSome rules) others_known
  others_some = All-tail (HasSome rules) (known rules h.o) others_known
      (All-permutation (HasSome rules) _ _ (IsPermutation-map (known rules) _ _ (IsPermutation-map opened _ _ h.others_are)) h.some)

  -- THE PART IS THAT OF ITS REQUEST

  same_kind : old_part.request.kind ≡ r.kind
  same_kind = ap (λ (p : Request). p.kind) (asks h ordered rise low).0 ∙ part_kind (limit h ordered rise low) r k

  brings : r.kind ≡ Write → payload_bytes payload
      ≡ slice_range (payload_bytes h.o.irp.payload) (bytes_from rules.sector_size r (part_request_of rules.max_transfer r k))
      (bytes_from rules.sector_size r (part_request_of rules.max_transfer r k) + data_length rules.sector_size
      (part_request_of rules.max_transfer r k))
  brings is =
      ap payload_bytes x.sends.sends.own.is_payload ∙ x.sends.sends.brings.brings (same_kind ∙ is)
      ∙ ap (λ n. slice_range (payload_bytes h.o.irp.payload) (bytes_from n r old_part.request) (bytes_from n r old_part.request + data_length n old_part.request)) h.sizes.sector_size
      ∙ ap (λ p. slice_range (payload_bytes h.o.irp.payload) (bytes_from rules.sector_size r p) (bytes_from rules.sector_size r p + data_length rules.sector_size p))
      (asks h ordered rise low).0

  brings_all : r.kind ≡ Write → length (payload_bytes payload) ≡ data_length rules.sector_size (part_request_of rules.max_transfer r k)
  brings_all is =
      ap (λ p. length (payload_bytes p)) x.sends.sends.own.is_payload ∙ x.sends.sends.brings.long
      ∙ ap (λ n. data_length n old_part.request) h.sizes.sector_size ∙ ap (data_length rules.sector_size) (asks h ordered rise low).0

  all_long : length h.o.parts ≡ k + suc (length back)
  all_long = ap length parts_are ∙ length-append front (old_part ∷ back) ∙ ap (λ n. n + suc (length back)) at_place

  many : k + 1 + length back ≡ part_count_of rules.max_transfer r
  many = let a = all_long in let e = long h ordered rise low in omega arith

  back_asks : map request_of_part back ≡ map (part_request_of rules.max_transfer r) (range_with_len (k + 1) (length back))
  back_asks =
      ap (map request_of_part) (sym behind_is)
      ∙ asked_behind (part_request_of rules.max_transfer r) 0 (part_count_of rules.max_transfer r) h.o.parts (k + 1)
      (length back) h.cut.parts_are many
      ∙ ap (λ n. map (part_request_of rules.max_transfer r) (range_with_len n (length back))) (omega arith)

  lies : v.state.paused ≡ false → (at : ℕ) → at + (place_count rules q + noted_places back_notes) ≡ place_count rules (known rules h.o).request
      → IsPartOf rules (known rules h.o).request at (new_request (below_rules rules) v.state number q)
  lies runs at places =
      let own : old_part.request ≡ part_request_of rules.max_transfer r k = (asks h ordered rise low).0 in
      let behind : noted_places back_notes ≡ total
      (map (λ j. places_for rules (part_request_of rules.max_transfer r j)) (range_with_len (k + 1) (length back))) =
      ready_total rules back back_ready (part_request_of rules.max_transfer r) (k + 1) (length back) back_asks in
      let here : place_count rules q ≡ places_for rules (part_request_of rules.max_transfer r k) = ap (places_for rules) own in
      let p = part_lies rules h.sizes.whole.some_bytes h.port.some_transfer r.volume r.extent r.through v.state runs number k
      (length back) at payload h.o.irp.payload r.kind many brings_all brings
      (ap (λ n. at + (n + total (map (λ j. places_for rules (part_request_of rules.max_transfer r j)) (range_with_len (k + 1) (length back)))))
      (sym here)
      ∙ ap (λ n. at + (place_count rules q + n)) (sym behind) ∙ places) in
      subst (λ kind. IsPartOf rules (known rules h.o).request at (new_request (below_rules rules) v.state number (as_client rules old_part.request (sent_bytes kind payload))))
      (sym same_kind)
      (subst (λ p. IsPartOf rules (known rules h.o).request at (new_request (below_rules rules) v.state number (as_client rules p (sent_bytes r.kind payload))))
      (sym own) p)

  -- BOTH MACHINES GO ON

  pub taking_on : (first : State) (labels : List DeviceLabel) → OpeningSoFar v b first labels → OpeningSoFar v' b' first (labels ++ x.submits.starts)
  taking_on first labels so_far =
      let t : IsTaking rules first labels v.state (knowns rules b) = so_far.taking in
      let opens : Opens (below_rules rules) v.state number q below.opened =
      subst (λ r. Opens r v.state number q below.opened) (port_rules h.port) below.opens in
      let run : Run (below_rules rules) below.opened (map as_label below.starts) v'.state =
      subst (λ r. Run r below.opened (map as_label below.starts) v'.state) (port_rules h.port) below.moves.run in
      let next : IsTaking rules first (labels ++ below.starts) v'.state
      (known_at (known rules h.o) front_notes (Sent number 0) back_notes ∷ others_known) =
      sent_first rules refl first labels v.state (known rules h.o) front_notes back_notes others_known q
      (taking_permuted rules first labels v.state _ _ known_old t) number below.opened opens
      (ready_here rules back back_ready)
      (lies (sym t.same.paused)) h.not_cancelled 17 h.over others_some below.starts v'.state run in
      record {
        taking = subst (λ (c : TableView). IsTaking (class_rules v'.rules) first (labels ++ below.starts) v'.state (knowns (class_rules v'.rules) c))
            (sym books_are)
            (subst (λ (u : Rules). IsTaking (class_rules u) first (labels ++ below.starts) v'.state (knowns (class_rules u) b_next)) (sym same_rules)
            (taking_permuted rules first (labels ++ below.starts) v'.state _ _ known_next next));
      }

  pub goes_on : GoesOn v b x.submits.starts v' b'
  goes_on = subst (λ (c : TableView). GoesOn v b below.starts v' c) (sym books_are) (record {
    only_starts = below.only_starts;
    adapter = below.moves.adapter;
    same_rules = same_rules;
    same_most = below.moves.same_most;
    same_places = ap (λ n. n + room_in_all b) below.moves.same_places;
    same_last = refl;
    same_submitted = refl;
    same_packets = packets_same;
    same_rooms = refl;
  })

  -- AND THE PARTS ARE SENT UP TO THE NEXT ONE

  some_places : 0 < place_count v.rules (as_client v.rules old_part.request [])
  some_places = subst (λ p. 0 < place_count v.rules (as_client v.rules p [])) (sym (asks h ordered rise low).0)
      (places_some v.rules h.sizes.whole.some_bytes (part_request_of (limit h ordered rise low) r k) (part_bounded h ordered rise low))

  pub sent_on : IsOrderly v' → IsOpening v' b' slot (k + 1)
  sent_on ordered' =
      subst (λ (c : TableView). IsOpening v' c slot (k + 1)) (sym books_are)
      (subst (λ (u : Rules). IsOpening (record v' { rules = u }) b_next slot (k + 1)) (sym same_rules)
      (record {
        port = h.port;
        o = o_next;
        others = h.others;
        is_open = is_found b_next.opens slot o_next stands_next;
        others_are = opens_next;
        not_cancelled = h.not_cancelled;
        staying = h.staying;
        rooms_out = rooms_on;
        ready_from = subst (All IsReadyPart) (sym behind_next) back_ready;
        sent = subst (All IsDown) (sym before_next)
            (All-append IsDown front (new_part ∷ []) (subst (All IsDown) before_is h.sent) (All-cons IsDown new_part [] tt (All-nil IsDown)));
        sizes = h.sizes;
        in_hand = h.in_hand;
        opens = h.opens;
        cut = record {
          bounded = h.cut.bounded;
          parts_are = map-append request_of_part front (new_part ∷ back)
              ∙ sym (ap (map request_of_part) parts_are ∙ map-append request_of_part front (old_part ∷ back)) ∙ h.cut.parts_are;
        };
        carries = h.carries;
        buffered = each_part (IsBuffered rules (goes_whole rules.max_transfer r)) (IsBuffered rules (goes_whole rules.max_transfer r)) tt (λ y is. is) h.buffered;
        written = each_part (IsWritten rules h.o) (IsWritten rules h.o) tt (λ y is. is) h.written;
        owned = owned_next;
        lent = lent_next rules.max_transfer r k (length h.o.parts) (long h ordered rise low);
        restarts = (
          h.restarts.0,
          restarts-append front (new_part ∷ back) ∙ sym (ap restarts_of parts_are ∙ restarts-append front (old_part ∷ back)) ∙ h.restarts.1,
        );
        unfinished = h.unfinished ∙ ap length parts_are ∙ length-append front (old_part ∷ back) ∙ sym (length-append front (new_part ∷ back));
        ended = subst (IsPermutation b.ended) (sym ended_stay) h.ended;
        causes = h.causes;
        places = let p = h.places in let l = long_next in omega arith;
        budget = let p = h.budget in let l = left_next in let m = back_long in let e = ap length behind_next in omega arith;
        next_number_is = let a = kept_run.0 in let c = number_is in omega arith;
        few = let a = h.few in let c = below.moves.same_submitted in omega arith;
        submitted = subst (λ n. b.submitted ≤ most_over n) (sym below.moves.same_most) h.submitted;
        removing = h.removing ∙ sym kept_run.1;
        asked = all_parts (λ y. IsAsked rules v.state.requests y × IsSpotted v.packets y) (IsAsked rules v'.state.requests) own_asked
            (λ y is. asked_still y.request y.progress is.1 is.0)
            (λ i d low' j d' low''. (h.asked i d low' j d' low'', h.spotted i d low' j d' low''));
        spotted = all_parts (IsSpotted v.packets) (IsSpotted v'.packets) own_spotted (λ y is. spotted_still y.progress is) h.spotted;
        topmost = All-permutation IsTopmost _ _ packets_next (All-cons IsTopmost packet v.packets own_topmost h.topmost);
        some = some_next;
        over = subst (λ t. All (IsOver 17 t) others_known) (sym kept_run.1) h.over;
        none_ended = ended_submitted IsNothing v packet old_part.request payload v' some_places h.none_ended below;
      }))
    where
      -- the room of the packet is spent, and no start changes another
      rooms_on : AllOut (record v' { rules = v.rules }) (tickets b_next)
      rooms_on =
          let r = out_less v v' (ticket h ordered rise low) (Some (whole_for old_part.request)) (rooms_left h ordered rise low) ordered'
          below.room (room_out h ordered rise low) in
          subst (λ (u : Rules). AllOut (record v' { rules = u }) (tickets b_next)) same_rules (subst (AllOut v') (sym rooms_next) r)
