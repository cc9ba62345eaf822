-- What the part was whose packet is handed up, and what its packet brings back.
use Rattle.std.proofs.Common.{◌≡◌, ◌<◌, ◌≤◌, ◌⊎◌, inl, inr, ℕ, suc, ◌+◌, ◌-◌, ◌*◌, ◌/◌, Bool, true, false, List, [], ◌∷◌, ◌++◌, refl, sym, ◌∙◌, ap, subst, arith, map, length, take}
use Rattle.class_disk.proofs.Common.{mul-div_cancel, IsPermutation-sym, IsPermutation-trans, Contains-permutation, All-contains, NtStatus, Success, DeviceBusy, Cancelled, NoSuchDevice, ClientRequest, Read, Write, Flush, Request, Rules, place_count, as_client, OpenRequest, State, IsSame, AreCounted, IsCounted, Run, as_label, Climb, Payload, DeviceLabel, DeviceView, IsOrderly, Carries, payload_bytes, sent_bytes, transfer_length, HandsUp, Outcome, Way, Returned, Unsent, HasPlaces, Note, Sent, Known, known_of, Divided, IsPartOf, parts_marks, parts_requests, IsMadeUp, AgreesOnCancel, IsCancelledAs, NeverSent, IsIfEnded, EndedAre, class_rules, EndsAs, HoldsData, payload_in, status_by, Opened, TableView, opened, all_open, TransferPacket, slot_at, ended_part, bytes_from, places_of, note, note_by, known, knowns, IsAsked, AreAsked, IsOpen, IsBuffered, IsWritten, IsTaking, IsMidway}
use Rattle.std.specs.Prelude.{IsPermutation, All, Contains, IsTrue, slice_range}
use Rattle.irp.specs.declared.Payload.TheVariants.{Buffer, Srb as Packed, Sent as AtAdapter}
use Rattle.class_disk.specs.declared.parts.Part.{Part}
use Rattle.class_disk.specs.declared.parts.Outcome.TheVariants.{Good, Failed as IsBad, Busy, Withdrawn}
use Rattle.class_disk.proofs.Retaking.{known_at, FoundBy, found_by}
use Rattle.class_disk.proofs.Keeping.{part_in as part_of_divided, there}
use Rattle.class_disk.proofs.Causes.{unsent_cause}
use Rattle.class_disk.proofs.CoupledSteps.{divided_with}
use Rattle.class_disk.proofs.Asking.{asks_of_handed, places_of_handed, request_of_handed}
use Rattle.class_disk.proofs.Standing.{All-at}
use Rattle.class_disk.proofs.Handed.{Handed}
use Rattle.class_disk.proofs.Changing.{known_old}
use Rattle.class_disk.proofs.PortRules.{port_rules}

as_long : (rules : Rules) (r : Request) → r.kind ≡ Read → transfer_length rules r ≡ r.extent.count * rules.sector_size
as_long rules r is = rw is refl

as_long_out : (rules : Rules) (r : Request) → r.kind ≡ Write → transfer_length rules r ≡ r.extent.count * rules.sector_size
as_long_out rules r is = rw is refl

from_start : {X : Type 0} (xs : List X) (n : ℕ) → slice_range xs 0 n ≡ take n xs
from_start xs n = let e : n - 0 ≡ n = omega arith in ap (λ m. take m xs) e

-- those of a part are its request's from its own place on
its_bytes : (size n count part whole first : ℕ) (sent all : List ℕ) →
    ((at many : ℕ) → at + many ≤ n → slice_range sent (at * size) ((at + many) * size) ≡ slice_range all ((first + at) * size)
    ((first + at + many) * size))
    → n ≡ count → part ≡ whole + first → take (count * size) sent ≡ slice_range all ((part - whole) * size)
    ((part - whole) * size + count * size)
its_bytes size n count part whole first sent all are long from =
    let e = are 0 n (omega arith) in
    let a : 0 * size ≡ 0 = omega arith in
    let c : (0 + n) * size ≡ count * size = ap (λ m. m * size) (omega arith) in
    let f : (first + 0) * size ≡ (part - whole) * size = ap (λ m. m * size) (omega arith) in
    let g : (first + 0 + n) * size ≡ (part - whole) * size + count * size =
    ap (λ m. m * size) (let x : first + 0 + n ≡ (part - whole) + count = omega arith in x) ∙ omega arith in
    sym (from_start sent (count * size)) ∙ sym (ap (λ i. slice_range sent i (count * size)) a) ∙ sym
    (ap (slice_range sent (0 * size)) c) ∙ e
    ∙ ap (λ i. slice_range all i ((first + 0 + n) * size)) f ∙ ap (slice_range all ((part - whole) * size)) g

-- what carries its request's data has a buffer of their length
holds_data : (takes : Bool) (rules : Rules) (r : Request) (payload : Payload) → Carries takes rules r payload → HoldsData (transfer_length rules r) payload
holds_data true rules r (Packed srb) h = h.data_length
holds_data true rules r (Buffer bytes) h = absurd h
holds_data true rules r AtAdapter h = absurd h
holds_data false rules r (Packed srb) h = absurd h
holds_data false rules r (Buffer bytes) h = h
holds_data false rules r AtAdapter h = absurd h

-- what is not sent again, and tells of a busy return, came back busy
busy_back : (way : Way) (status : NtStatus) (outcome : Outcome) → EndsAs way status outcome → status_by outcome ≡ DeviceBusy → status ≡ DeviceBusy
busy_back way status Good ends is = absurd (cc (is))
busy_back Returned status (IsBad failure) ends is = sym ends.0 ∙ is
busy_back Returned status (Busy told) ends is = ends
busy_back Returned status (Withdrawn told) ends is = absurd ends
busy_back Unsent status (IsBad failure) ends is = absurd ends
busy_back Unsent status (Busy told) ends is = absurd ends
busy_back Unsent status (Withdrawn told) ends is = sym ends ∙ is

-- and what succeeded came back so
good_back : (way : Way) (status : NtStatus) → EndsAs way status Good → status ≡ Success
good_back Returned status ends = ends
good_back Unsent status ends = absurd ends

-- WHAT THE PART THAT IS HANDED UP WAS

module _ {takes : Bool} {v : DeviceView} {b : TableView} {climb : Climb} {spot : ℕ} {v' : DeviceView} (h : HandsUp takes v climb spot v') (ordered : IsOrderly v)
    (d : Handed b h.answer.packet.number h.answer.packet.spot) {first : State} {labels : List DeviceLabel}
    {Is : OpenRequest → Type 0} (m : IsMidway Is first labels v b) where
  abbrev pub rules_here : Rules
  rules_here = class_rules v.rules

  abbrev pub slot_here : ℕ
  slot_here = slot_at b.owners h.answer.packet.spot

  abbrev pub notes_front : List Note
  notes_front = map (note rules_here) d.stands.front

  abbrev pub notes_back : List Note
  notes_back = map (note rules_here) d.stands.back

  abbrev pub knowns_beside : List Known
  knowns_beside = map (known rules_here) (map opened (d.stands.stands.before ++ d.stands.stands.after))

  pub entry_open : IsOpen rules_here b.owners (slot_here, d.o)
  entry_open = All-at (IsOpen rules_here b.owners) d.stands.stands.before (slot_here, d.o) d.stands.stands.after
      (subst (All (IsOpen rules_here b.owners)) d.stands.stands.opens_are m.kept.opens)

  pub was_sent_as : note rules_here d.part ≡ Sent h.answer.packet.number d.part.restarts
  was_sent_as = ap (note_by rules_here d.part) d.stands.is_below

  pub taking_here : IsTaking rules_here first labels v.state
      (known_at (known rules_here d.o) notes_front (Sent h.answer.packet.number d.part.restarts) notes_back ∷ knowns_beside)
  taking_here =
      let t = m.taking in
      record {
        j = t.j;
        same = t.same;
        knows = IsPermutation-trans _ _ _ t.knows
            (subst (λ (n : Note). IsPermutation (knowns rules_here b)
            (known_at (known rules_here d.o) notes_front n notes_back ∷ knowns_beside)) was_sent_as
            (known_old rules_here d.stands d.part 0 0 0 []));
        keeps = t.keeps;
        sound = t.sound;
        counted = t.counted;
        next_above = t.next_above;
        run = t.run;
      }

  -- what it asked for
  pub part_asks : record h.answer.answers.request.request { bytes = [] } ≡ as_client v.rules d.part.request []
  part_asks =
      asks_of_handed rules_here takes v climb spot v' h d.part h.answer.packet.spot d.stands.is_below
      (All-at (IsAsked rules_here v.state.requests) d.stands.front d.part d.stands.back
      (subst (All (IsAsked rules_here v.state.requests)) d.stands.parts_are
      (All-contains (AreAsked rules_here v.state.requests) (all_open b) d.o m.below.asked in_opens)))
    where
      in_opens : Contains (all_open b) d.o
      in_opens = found b.opens d.stands.stands.before d.stands.stands.opens_are
        where
          found : (es before : List (ℕ × Opened)) → es ≡ before ++ ((slot_here, d.o) ∷ d.stands.stands.after) → Contains
              (map opened es) d.o
          found es before is = subst (λ xs. Contains (map opened xs) d.o) (sym is) (there before)
            where
              there : (xs : List (ℕ × Opened)) → Contains (map opened (xs ++ ((slot_here, d.o) ∷ d.stands.stands.after))) d.o
              there [] = (0, omega arith, refl)
              there (x ∷ xs) = let c = there xs in (suc c.0, let w = c.1 in omega arith, c.2)

  pub some_bytes : 0 < v.rules.sector_size
  some_bytes = m.kept.sizes.whole.some_bytes

  pub same_request : d.part.request ≡ h.answer.request
  same_request = request_of_handed takes v climb spot v' some_bytes h d.part part_asks

  pub as_many_places : place_count v.rules h.answer.answers.request.request ≡ places_of rules_here d.part
  as_many_places = places_of_handed rules_here h.answer.answers.request.request d.part part_asks

  pub open_below : Contains v.state.requests h.answer.answers.request
  open_below = Contains-permutation _ _ h.answer.answers.request (IsPermutation-sym _ _ h.answer.answers.is_open) (0, omega arith, refl)

  -- nothing started
  pub no_starts : h.left.starts ≡ []
  no_starts = (h.left.still m.port.no_window).0

  pub answered_there : IsSame h.answer.answered v'.state
  answered_there = subst (λ (ls : List DeviceLabel). Run v.rules h.answer.answered (map as_label ls) v'.state) no_starts h.left.moves.run

  pub next_stays : v'.state.next_request ≡ v.state.next_request
  next_stays = sym answered_there.next_request ∙ h.answer.answers.after.next_request

  pub removing_stays : v'.state.removing ≡ v.state.removing
  removing_stays = sym answered_there.removing ∙ h.answer.answers.after.removing

  -- it is part of its request
  by_its_note : FoundBy taking_here.j h.answer.answers.request (known rules_here d.o) notes_front notes_back d.part.restarts knowns_beside
  by_its_note =
      found_by taking_here.j v.state taking_here.same taking_here.sound.distinct h.answer.answers.request open_below
      (known rules_here d.o) notes_front notes_back d.part.restarts knowns_beside
      (subst (λ (n : ℕ). IsPermutation (map known_of taking_here.j.divided)
      (known_at (known rules_here d.o) notes_front (Sent n d.part.restarts) notes_back ∷ knowns_beside))
      (sym h.answer.answers.is_number) taking_here.knows)

  in_divided : (place : ℕ) × IsPartOf rules_here (known rules_here d.o).request place h.answer.answers.request
  in_divided = by by_its_note
    where
      by : FoundBy taking_here.j h.answer.answers.request (known rules_here d.o) notes_front notes_back d.part.restarts knowns_beside →
          (place : ℕ) × IsPartOf rules_here (known rules_here d.o).request place h.answer.answers.request
      by f =
          let e : Divided = divided_with f.found.whole f.found.front f.found.back h.answer.answers.request f.found.again f.found.pieces in
          let made : IsMadeUp rules_here e = All-at (IsMadeUp rules_here) f.found.before e f.found.after
          (subst (All (IsMadeUp rules_here)) f.found.is_there taking_here.keeps.made_up) in
          let place : ℕ = length (parts_marks f.found.front) in (
            place,
            subst (λ (q : ClientRequest). IsPartOf rules_here q place h.answer.answers.request) f.request_is
                (part_of_divided rules_here e.request h.answer.answers.request f.found.again f.found.pieces f.found.front f.found.back made).0,
          )

  -- a read that succeeded brought all that it asked for, a flush no bytes, and what came back busy its buffer
  pub is_buffered : (only : Bool) (packet : TransferPacket) → payload_in packet ≡ h.answer.payload → (way : Way) (outcome : Outcome) → EndsAs way h.answer.status outcome
      → IsBuffered rules_here only (ended_part (record { packet = packet; outcome = outcome }) d.part)
  is_buffered only packet payload_is way outcome ends = (
    λ good reads. filled (good_back way h.answer.status (subst (EndsAs way h.answer.status) good ends)) reads,
    none,
    λ is. held (busy_back way h.answer.status outcome ends is),
  )
    where
      held : h.answer.status ≡ DeviceBusy → HoldsData (transfer_length rules_here d.part.request) (payload_in packet)
      held is =
          subst (HoldsData (transfer_length rules_here d.part.request)) (sym payload_is)
          (subst (λ (r : Request). HoldsData (transfer_length rules_here r) h.answer.payload) (sym same_request)
          (holds_data takes v.rules h.answer.request h.answer.payload (h.brought.carries is)))

      filled : h.answer.status ≡ Success → d.part.request.kind ≡ Read → length (payload_bytes (payload_in packet)) ≡ transfer_length rules_here d.part.request
      filled success reads =
          let reads' : h.answer.request.kind ≡ Read = sym (ap (λ (r : Request). r.kind) same_request) ∙ reads in
          let many : length h.answer.bytes ≡ d.part.request.extent.count * v.rules.sector_size = h.brought.filled reads' success ∙ ap
          (λ (r : Request). r.extent.count * v.rules.sector_size) (sym same_request) in
          ap (λ p. length (payload_bytes p)) payload_is ∙ ap length (h.brought.brings reads' success) ∙ many ∙ sym
          (as_long rules_here d.part.request reads)

      none : d.part.request.kind ≡ Flush → payload_bytes (payload_in packet) ≡ []
      none flushes = ap payload_bytes payload_is ∙ h.brought.empty (sym (ap (λ (r : Request). r.kind) same_request) ∙ flushes)

  -- what never went was cancelled, or the device was removed, and its status tells which
  agrees : h.answer.answers.request.cancelled ≡ d.o.irp.cancelled
  agrees =
      let o : OpenRequest = h.answer.answers.request in
      let f = by_its_note in
      let e : Divided = divided_with f.found.whole f.found.front f.found.back o f.found.again f.found.pieces in
      let all : AgreesOnCancel e = All-at AgreesOnCancel f.found.before e f.found.after (subst (All AgreesOnCancel) f.found.is_there taking_here.keeps.agree) in
      All-contains (IsCancelledAs e.cancelled) (parts_requests e.parts) o all (there o f.found.again f.found.pieces f.found.front f.found.back) ∙ f.cancelled_is

  pub unsent_as : EndedAre NeverSent v.rules v.state → (IsTrue d.o.irp.cancelled × (h.answer.status ≡ Cancelled)) ⊎ (IsTrue b.removing × (h.answer.status ≡ NoSuchDevice))
  unsent_as never = by (unsent_cause v.rules v.state x h.answer.status x.marks (All-contains HasPlaces v.state.requests x ordered.places open_below)
      (All-contains (IsIfEnded NeverSent v.rules v.state) v.state.requests x never open_below h.answer.answers.ended) in_divided.1.timely h.answer.answers.cause)
    where
      x : OpenRequest
      x = h.answer.answers.request

      by : (IsTrue x.cancelled × (h.answer.status ≡ Cancelled)) ⊎ (IsTrue v.state.removing × (h.answer.status ≡ NoSuchDevice)) → (IsTrue d.o.irp.cancelled × (h.answer.status ≡ Cancelled)) ⊎ (IsTrue b.removing × (h.answer.status ≡ NoSuchDevice))
      by (inl (cancelled, is)) = inl (sym agrees ∙ cancelled, is)
      by (inr (removing, is)) = inr (m.below.removing ∙ removing, is)

  -- a write took its own bytes along, and brings them back
  pub is_written : (packet : TransferPacket) → payload_in packet ≡ h.answer.payload → (outcome : Outcome)
      → IsWritten rules_here d.o (ended_part (record { packet = packet; outcome = outcome }) d.part)
  is_written packet payload_is outcome = λ writes.
      let x : OpenRequest = h.answer.answers.request in
      let (place, p) = in_divided in
      let size : ℕ = v.rules.sector_size in
      let writes_below : h.answer.request.kind ≡ Write = sym (ap (λ (r : Request). r.kind) same_request) ∙ writes in
      let asks = part_asks in
      let kind : x.request.kind ≡ Write = ap (λ (q : ClientRequest). q.kind) asks ∙ writes in
      let writes_above : d.o.request.kind ≡ Write = sym p.kind ∙ kind in
      let took : x.request.bytes ≡ payload_bytes (payload_in packet) =
      ap (λ (q : ClientRequest). q.bytes) h.answer.is_request ∙ ap (λ k. sent_bytes k h.answer.payload) writes_below ∙ ap payload_bytes
      (sym payload_is) in
      let has : sent_bytes d.o.request.kind d.o.irp.payload ≡ payload_bytes d.o.irp.payload = ap
      (λ k. sent_bytes k d.o.irp.payload) writes_above in
      let offset : x.request.offset ≡ d.part.request.extent.first * size = ap (λ (q : ClientRequest). q.offset) asks in
      let from : d.part.request.extent.first ≡ d.o.request.extent.first + place =
      sym (mul-div_cancel d.part.request.extent.first some_bytes) ∙ ap (λ n. n / size) (sym offset) ∙ p.from ∙ ap (λ n. n + place)
      (mul-div_cancel d.o.request.extent.first some_bytes) in
      let long : length x.marks ≡ d.part.request.extent.count =
      (All-contains (IsCounted v.rules) v.state.requests x (subst (λ r. AreCounted r v.state)
      (sym (port_rules m.port)) m.taking.counted) open_below).places
      ∙ as_many_places ∙ transfers_places d.part writes in
      let all : take (d.part.request.extent.count * size) x.request.bytes ≡ slice_range (sent_bytes d.o.request.kind d.o.irp.payload)
      (bytes_from size d.o.request d.part.request) (bytes_from size d.o.request d.part.request + d.part.request.extent.count * size) =
      its_bytes size (length x.marks) d.part.request.extent.count d.part.request.extent.first d.o.request.extent.first place x.request.bytes (sent_bytes d.o.request.kind d.o.irp.payload) p.bytes long from in
      let told : transfer_length rules_here d.part.request ≡ d.part.request.extent.count * size = as_long_out rules_here d.part.request writes in
      let own : take (transfer_length rules_here d.part.request) (payload_bytes (payload_in packet)) ≡ slice_range (payload_bytes d.o.irp.payload) (bytes_from size d.o.request d.part.request)
      (bytes_from size d.o.request d.part.request + transfer_length rules_here d.part.request) =
      ap (λ n. take n (payload_bytes (payload_in packet))) told ∙ sym (ap (take (d.part.request.extent.count * size)) took) ∙ all
      ∙ ap (λ bytes. slice_range bytes (bytes_from size d.o.request d.part.request)
      (bytes_from size d.o.request d.part.request + d.part.request.extent.count * size)) has
      ∙ ap (λ n. slice_range (payload_bytes d.o.irp.payload) (bytes_from size d.o.request d.part.request)
      (bytes_from size d.o.request d.part.request + n)) (sym told) in
      let whole : length (payload_bytes (payload_in packet)) ≡ transfer_length rules_here d.part.request =
      sym (ap length took) ∙ p.long kind ∙ ap (λ n. n * size) long ∙ sym told in
      (own, whole)
    where
      transfers_places : (part : Part) → part.request.kind ≡ Write → places_of rules_here part ≡ part.request.extent.count
      transfers_places part is = rw is (mul-div_cancel part.request.extent.count some_bytes)
