-- What goes up with a request that has ended: its bytes, its status and its packet.
use Rattle.class_disk.proofs.Common.{concat, cases_Bool, eqb-true, IsPermutation-refl, IsPermutation-map, All-nil, All-head, Contains-get_or, All-permutation, NtStatus, Success, DeviceBusy, Climb, Payload, Climbs, moves_none, Kind, Read, Write, Flush, ClientRequest, Request, Rules, place_count, as_client, is_transfer, Mark, Done, IsStart, answer_bytes, bytes_of_mark, information, IsSame-refl, SetsRoom, HandsUp, cut, sectors_moved, part_count_of, part_request_of, goes_whole, lowest_status, joined_of, Opened, TableView, ClosedSlot, given_up, joined_up, payload_up, Completes, Known, parts_marks, IsMadeUp, noted_busy, view_of, note, packet_above, IsBuffered, IsWritten, IsWrittenBy, IsInHand, IsOpen}
use Rattle.std.proofs.Common.{◌≡◌, ◌≢◌, ◌<◌, inl, inr, ℕ, ◌+◌, ◌*◌, Bool, true, false, List, [], ◌∷◌, Option, Some, None, refl, sym, ◌∙◌, ap, subst, arith, map, length, drop}
use Rattle.std.specs.Prelude.{IsPermutation, All, slice_get, if◌then◌else◌}
use Rattle.irp.specs.declared.Payload.TheVariants.{Buffer, Srb as Packed, Sent as AtAdapter}
use Rattle.irp.specs.Climb.{above as locations_above}
use Rattle.device.specs.View.{DeviceView, Reserved, Carries, IsOrderly, payload_bytes, sent_bytes}
use Rattle.class_disk.specs.declared.parts.Part.{Part}
use Rattle.class_disk.proofs.Acting.{parts_long}
use Rattle.class_disk.proofs.EndedParts.{marks_noted, IsEndedPart, IsGoodPart, all_good}
use Rattle.class_disk.proofs.LentUp.{joined_alone, write_alone, flush_alone, carries_alone}
use Rattle.class_disk.proofs.OnlyPart.{only_part}
use Rattle.class_disk.proofs.PiecePlaces.{asked_at, as_many}
use Rattle.class_disk.proofs.EndedBytes.{whole_places, places_in, places_marked, read_marks, flush_marks, write_marks, write_request, IsInRow, joined_long, concat_cut, all_done_are}
use Rattle.class_disk.proofs.HandingUp.{rules, b', is_open, causes, ended, some_bytes, bounded_part, parts_kind, e, known_is, first_of_all, marks_are, status, bytes_up, answers_up}
use Rattle.std.proofs.lemmas.List.{nil_from_length}

-- as many bytes, whatever the request brings along
info_same : (rules : Rules) (r : Request) (xs ys : List ℕ) (status : NtStatus) → information (as_client rules r xs) status ≡ information (as_client rules r ys) status
info_same rules r xs ys Success = refl
info_same rules r xs ys status = refl

none_carried : (rules : Rules) (r : Request) (payload : Payload) → r.kind ≡ Flush → Carries false rules r payload → payload_bytes payload ≡ []
none_carried rules r (Packed srb) kind h = absurd h
none_carried rules r (Buffer bytes) kind h = nil_from_length bytes (h ∙ ap (λ k. if is_transfer k then r.extent.count * rules.sector_size else 0) kind)
none_carried rules r AtAdapter kind h = absurd h

bytes_joined : (rules : Rules) (r : Request) (payload : Payload) (parts : List Part) → Carries false rules r payload → payload_bytes (joined_up true payload parts) ≡ joined_of parts
bytes_joined rules r (Packed srb) parts h = absurd h
bytes_joined rules r (Buffer bytes) parts h = refl
bytes_joined rules r AtAdapter parts h = absurd h

sent_same : (kind : Kind) (up payload : Payload) → (kind ≡ Write → payload_bytes up ≡ payload_bytes payload) → sent_bytes kind up ≡ sent_bytes kind payload
sent_same Read up payload h = refl
sent_same Flush up payload h = refl
sent_same Write up payload h = h refl

carries_up : (rules : Rules) (r : Request) (joins : Bool) (payload : Payload) (parts : List Part) → joins ≡ false → Carries false rules r payload → Carries false rules r (joined_up joins payload parts)
carries_up rules r false payload parts is h = h
carries_up rules r true payload parts is h = absurd (cc (is))

bytes_kept : (joins : Bool) (payload : Payload) (parts : List Part) → joins ≡ false → payload_bytes (joined_up joins payload parts) ≡ payload_bytes payload
bytes_kept false payload parts is = refl
bytes_kept true payload parts is = absurd (cc (is))

one_item : (parts : List Part) → length parts ≡ 1 → (part : Part) × (parts ≡ part ∷ [])
one_item [] one = absurd (omega (arith, one))
one_item (part ∷ []) one = (part, refl)
one_item (part ∷ more ∷ rest) one = absurd (omega (arith, one))

by_lent : (P : Bool → Type 0) (lent : Bool) → (lent ≡ true → P true) → (lent ≡ false → P false) → P lent
by_lent P true yes' no' = yes' refl
by_lent P false yes' no' = no' refl

module _ (v : DeviceView) (b : TableView) (h : IsInHand v b) (ordered : IsOrderly v)
    (slot : ℕ) (o : Opened) (opens' : List (ℕ × Opened)) (ended' : List ℕ) (is_in : IsPermutation b.opens ((slot, o) ∷ opens')) (over : o.unfinished ≡ 0) where
  abbrev own_rules : Rules
  own_rules = rules v b h ordered slot o opens' ended' is_in over

  own_open : IsOpen own_rules b.owners (slot, o)
  own_open = is_open v b h ordered slot o opens' ended' is_in over

  abbrev only : Bool
  only = goes_whole own_rules.max_transfer o.request

  many_parts : length o.parts ≡ part_count_of own_rules.max_transfer o.request
  many_parts = as_many (part_request_of own_rules.max_transfer o.request) 0 (part_count_of own_rules.max_transfer o.request) o.parts own_open.cut.parts_are

  -- where its buffer was lent
  module _ (lent : o.lent ≡ true) where
    is_only : only ≡ true
    is_only = sym own_open.lent ∙ lent

    abbrev alone : (part : Part) × (o.parts ≡ part ∷ [])
    alone = one_item o.parts (many_parts ∙ eqb-true _ 1 is_only)

    abbrev part : Part
    part = alone.0

    asks_all : part.request ≡ o.request
    asks_all =
        let a = asked_at (part_request_of own_rules.max_transfer o.request) 0 (part_count_of own_rules.max_transfer o.request) o.parts 0 part own_open.cut.parts_are (ap (λ ps. slice_get ps 0) alone.1) in
        a.0 ∙ only_part own_rules.max_transfer o.request (0 + 0) h.port.some_transfer (eqb-true _ 1 is_only) (let low = a.1 in omega (arith, low))

    its : (P : Part → Type 0) → All P o.parts → P part
    its P all = All-head P part [] (subst (All P) alone.1 all)

    part_ended : IsEndedPart part
    part_ended = its IsEndedPart (ended v b h ordered slot o opens' ended' is_in over)

    part_buffered : IsBuffered own_rules true part
    part_buffered = subst (λ t. IsBuffered own_rules t part) is_only (its (IsBuffered own_rules only) own_open.buffered)

    part_written : IsWrittenBy own_rules o.request (payload_bytes o.irp.payload) part.request part.progress
    part_written = its (IsWritten own_rules o) own_open.written

    up_joined : payload_bytes (given_up o.parts) ≡ joined_of o.parts
    up_joined = subst (λ ps. payload_bytes (given_up ps) ≡ joined_of ps) (sym alone.1)
        (joined_alone own_rules o.request o.irp.payload part part_ended asks_all part_buffered part_written own_open.carries)

    up_other : o.request.kind ≢ Read → payload_bytes (given_up o.parts) ≡ payload_bytes o.irp.payload
    up_other not = by o.request.kind refl
      where
        by : (kind : Kind) → o.request.kind ≡ kind → payload_bytes (given_up o.parts) ≡ payload_bytes o.irp.payload
        by Read is = absurd (not is)
        by Write is = ap (λ ps. payload_bytes (given_up ps)) alone.1
            ∙ write_alone own_rules o.request o.irp.payload part part_ended asks_all part_buffered part_written own_open.carries is
        by Flush is = ap (λ ps. payload_bytes (given_up ps)) alone.1
            ∙ flush_alone own_rules o.request o.irp.payload part part_ended asks_all part_buffered part_written own_open.carries is
            ∙ sym (none_carried own_rules o.request o.irp.payload is own_open.carries)

    up_carries : lowest_status o.parts ≡ DeviceBusy → Carries false own_rules o.request (given_up o.parts)
    up_carries busy = subst (λ ps. Carries false own_rules o.request (given_up ps)) (sym alone.1)
        (carries_alone own_rules o.request o.irp.payload part part_ended asks_all part_buffered part_written own_open.carries
        (ap lowest_status (sym alone.1) ∙ busy))

  -- where it succeeds, each part did
  pub good : lowest_status o.parts ≡ Success → All IsGoodPart o.parts
  good succeeds =
      all_good o.irp.cancelled b.removing (noted_busy (map (note own_rules) o.parts)) o.parts (ended v b h ordered slot o opens' ended' is_in over)
      (causes v b h ordered slot o opens' ended' is_in over) succeeds

  pub size : 0 < own_rules.sector_size
  size = some_bytes v b h ordered slot o opens' ended' is_in over

  -- its parts have all its places
  pub all_places : All IsGoodPart o.parts → places_in own_rules o.parts ≡ place_count own_rules (as_client own_rules o.request [])
  all_places all =
      let m = All-head (IsMadeUp own_rules) _ _ (All-permutation (IsMadeUp own_rules) _ _ (first_of_all v b h ordered slot o opens' ended' is_in over) h.coupled.keeps.made_up) in
      let l = parts_long own_rules (e v b h ordered slot o opens' ended' is_in over).request 0 (e v b h ordered slot o opens' ended' is_in over).parts m in
      let marks = ap length (marks_are v b h ordered slot o opens' ended' is_in over) in
      let q = ap (λ (k : Known). place_count own_rules k.request) (known_is v b h ordered slot o opens' ended' is_in over) in
      let n = places_marked own_rules o.parts all in
      omega (arith, l, marks, q, n)

  -- the buffer of a read has room for what its parts brought
  pub fits : o.request.kind ≡ Read → lowest_status o.parts ≡ Success → length (joined_of o.parts) ≡ o.request.extent.count * own_rules.sector_size
  fits kind succeeds =
      let all = good succeeds in
      joined_long own_rules size only o.parts all (subst (λ k. All (λ (part : Part). part.request.kind ≡ k) o.parts) kind (parts_kind own_rules own_rules.max_transfer o.request o.parts own_open.cut.parts_are)) own_open.buffered
      ∙ ap (λ n. n * own_rules.sector_size) (all_places all ∙ (whole_places own_rules o.request size (ap is_transfer kind)).0)

  abbrev moved_marks : List ℕ → List Mark
  moved_marks bytes = map Done (cut (place_count own_rules (as_client own_rules o.request [])) own_rules.sector_size bytes)

  kinds : (kind : Kind) → o.request.kind ≡ kind → All (λ (part : Part). part.request.kind ≡ kind) o.parts
  kinds kind is = subst (λ k. All (λ (part : Part). part.request.kind ≡ k) o.parts) is (parts_kind own_rules own_rules.max_transfer o.request o.parts own_open.cut.parts_are)

  marks_by : (kind : Kind) → o.request.kind ≡ kind → lowest_status o.parts ≡ Success → (bytes : List ℕ) → (kind ≡ Read → bytes ≡ joined_of o.parts) → (kind ≢ Read → bytes ≡ payload_bytes o.irp.payload)
      → marks_noted (map (note own_rules) o.parts) ≡ moved_marks bytes
  marks_by Read is succeeds bytes read other =
      let all = good succeeds in
      read_marks own_rules size only o.parts all (kinds Read is) own_open.buffered ∙ ap (λ n. map Done (cut n own_rules.sector_size (joined_of o.parts))) (all_places all) ∙ ap moved_marks (sym (read refl))
  marks_by Flush is succeeds bytes read other =
      let all = good succeeds in
      flush_marks own_rules only o.parts all (kinds Flush is) own_open.buffered ∙ ap (λ n. map Done (cut n own_rules.sector_size [])) (all_places all)
      ∙ ap moved_marks (sym (other (λ x. cc (x)) ∙ none_carried own_rules o.request o.irp.payload is own_open.carries))
  marks_by Write is succeeds bytes read other =
      let all = good succeeds in
      let limit : ℕ = own_rules.max_transfer in
      let total : ℕ = part_count_of limit o.request in
      let row : IsInRow limit o.request total = record {
        is_write = is;
        some = λ k low.
            let own = write_request limit o.request k is in
            let s = (bounded_part v b h ordered slot o opens' ended' is_in over k low).some (ap (λ (q : Request). is_transfer q.kind) own ∙ ap is_transfer is) in
            let c = ap (λ (q : Request). q.extent.count) own in omega (arith, s, c);
      } in
      let none : 0 * limit * own_rules.sector_size ≡ 0 = omega arith in
      write_marks own_rules size limit o.request (payload_bytes o.irp.payload) total row 0 total (omega arith) o.parts own_open.cut.parts_are all own_open.written
      ∙ ap (λ n. map Done (cut (places_in own_rules o.parts) own_rules.sector_size (drop n (payload_bytes o.irp.payload)))) none
      ∙ ap (λ n. map Done (cut n own_rules.sector_size (payload_bytes o.irp.payload))) (all_places all)
      ∙ ap moved_marks (sym (other (λ x. cc (x))))

  module _ (climb : Climb) (parts : List Part) (c : Completes b.sizes o climb parts) (held' : List ClosedSlot) (rooms' : List (Option Reserved))
      (sets : SetsRoom b.rooms slot None (Some (record { request = o.request; whole = false })) rooms') where
    -- the table, with what it leaves behind
    abbrev pub left_now : TableView
    left_now = record (b' v b h ordered slot o opens' ended' is_in over) { held = held'; rooms = rooms' }

    abbrev payload : Payload
    payload = payload_up o.lent c.joins o.irp.payload o.parts

    -- the buffer that was lent, or its own
    either : (P : Payload → Type 0) → (o.lent ≡ true → P (given_up o.parts)) → (o.lent ≡ false → P (joined_up c.joins o.irp.payload o.parts)) → P payload
    either P lent own = by_lent (λ t. P (payload_up t c.joins o.irp.payload o.parts)) o.lent lent own

    read_bytes : o.request.kind ≡ Read → lowest_status o.parts ≡ Success → payload_bytes payload ≡ joined_of o.parts
    read_bytes kind succeeds =
        either (λ p. payload_bytes p ≡ joined_of o.parts) up_joined
        (λ own. ap (λ joins. payload_bytes (joined_up joins o.irp.payload o.parts)) (c.joins_then kind succeeds) ∙ bytes_joined own_rules o.request o.irp.payload o.parts own_open.carries)

    other_bytes : o.request.kind ≢ Read → payload_bytes payload ≡ payload_bytes o.irp.payload
    other_bytes not = either (λ p. payload_bytes p ≡ payload_bytes o.irp.payload) (λ lent. up_other lent not) (λ own. elim (cases_Bool c.joins) [
      | inl joins ↦ absurd (not (c.joins_if joins).0)
      | inr kept ↦ bytes_kept c.joins o.irp.payload o.parts kept
    ])

    moved_up : lowest_status o.parts ≡ Success → parts_marks (e v b h ordered slot o opens' ended' is_in over).parts ≡ map Done (sectors_moved own_rules o.request payload)
    moved_up succeeds =
        marks_are v b h ordered slot o opens' ended' is_in over
        ∙ marks_by o.request.kind refl succeeds (payload_bytes payload) (λ kind. read_bytes kind succeeds) other_bytes

    abbrev bytes : List ℕ
    bytes = bytes_up v b h ordered slot o opens' ended' is_in over

    request_up : (e v b h ordered slot o opens' ended' is_in over).request ≡ as_client own_rules o.request (sent_bytes o.request.kind payload)
    request_up =
        ap (λ (k : Known). k.request) (known_is v b h ordered slot o opens' ended' is_in over)
        ∙ ap (as_client own_rules o.request) (sym (sent_same o.request.kind payload o.irp.payload (λ is. other_bytes (λ reads. cc (is, reads)))))

    brought : o.request.kind ≡ Read → lowest_status o.parts ≡ Success → bytes ≡ joined_of o.parts
    brought kind succeeds =
        let m = moved_up succeeds in
        let n = place_count own_rules (as_client own_rules o.request []) in
        let w = whole_places own_rules o.request size (ap is_transfer kind) in
        let long : length (joined_of o.parts) ≡ n * own_rules.sector_size = fits kind succeeds ∙ ap (λ k. k * own_rules.sector_size) (sym w.0) in
        let marks = m ∙ ap (λ xs. map Done (cut n own_rules.sector_size xs)) (read_bytes kind succeeds) in
        ap (λ (q : ClientRequest). answer_bytes q.kind (parts_marks (e v b h ordered slot o opens' ended' is_in over).parts)) request_up
        ∙ ap (λ k. answer_bytes k (parts_marks (e v b h ordered slot o opens' ended' is_in over).parts)) kind
        ∙ ap (answer_bytes Read) marks
        ∙ ap (λ all. if all then concat (map bytes_of_mark (map Done (cut n own_rules.sector_size (joined_of o.parts)))) else []) (all_done_are (cut n own_rules.sector_size (joined_of o.parts)))
        ∙ concat_cut n own_rules.sector_size (joined_of o.parts) long

    pub handed_up : HandsUp false (view_of v b) climb slot (view_of v left_now)
    handed_up = record {
      answer = record {
        packet = packet_above (slot, o);
        is_spot = refl;
        request = o.request;
        payload = payload;
        status = lowest_status o.parts;
        bytes = bytes;
        answered = (view_of v (b' v b h ordered slot o opens' ended' is_in over)).state;
        answers = answers_up v b h ordered slot o opens' ended' is_in over;
        is_request = request_up;
      };
      brought = record {
        moved = moved_up;
        busy = λ one back. absurd (cc (one));
        carries = λ busy. either (Carries false own_rules o.request) (λ lent. up_carries lent busy) (λ own. elim (cases_Bool c.joins) [
          | inl joins ↦ absurd (let s = (c.joins_if joins).1 in cc (s, busy))
          | inr kept ↦ carries_up own_rules o.request c.joins o.irp.payload o.parts kept own_open.carries
        ]);
        brings = λ kind succeeds. read_bytes kind succeeds ∙ sym (brought kind succeeds);
        filled = λ kind succeeds. ap length (brought kind succeeds) ∙ fits kind succeeds;
        empty = none_brought;
      };
      left = record {
        whole = false;
        is_whole = λ takes. takes;
        room = sets;
        others = map packet_above opens';
        is_in = IsPermutation-map packet_above _ _ is_in;
        starts = [];
        only_starts = All-nil IsStart;
        moves = record {
          same_rules = refl;
          same_packets = IsPermutation-refl _;
          same_rooms = λ spot. refl;
          same_submitted = refl;
          same_most = refl;
          same_places = refl;
          run = IsSame-refl _;
          adapter = moves_none v.adapter;
        };
        started_stay = λ n d low started. Contains-get_or _ n d low;
        still = λ none. (refl, refl);
      };
      climbs = climbs_up;
      brings_routine = c.brings_routine;
    }
      where
        none_brought : o.request.kind ≡ Flush → payload_bytes payload ≡ []
        none_brought kind = other_bytes (λ is. cc (kind, is)) ∙ none_carried own_rules o.request o.irp.payload kind own_open.carries

        climbs_up : Climbs (locations_above o.irp) o.irp.number (e v b h ordered slot o opens' ended' is_in over).cancelled (lowest_status o.parts)
            (information (e v b h ordered slot o opens' ended' is_in over).request (lowest_status o.parts)) payload climb
        climbs_up =
            let same = known_is v b h ordered slot o opens' ended' is_in over in
            let told = c.informs own_rules (sym h.kept.sizes.sector_size)
            ∙ info_same own_rules o.request [] (sent_bytes o.request.kind o.irp.payload) (lowest_status o.parts)
            ∙ ap (λ (k : Known). information k.request (lowest_status o.parts)) (sym same) in
            subst (λ n. Climbs (locations_above o.irp) o.irp.number (e v b h ordered slot o opens' ended' is_in over).cancelled (lowest_status o.parts) n payload climb) told
            (subst (λ x. Climbs (locations_above o.irp) o.irp.number x (lowest_status o.parts) c.informed payload climb) (ap (λ (k : Known). k.cancelled) (sym same)) c.climbs)
