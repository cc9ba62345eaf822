-- A part that is not sent again ends in the table: one packet is taken.
use Rattle.std.proofs.Common.{◌≡◌, ◌<◌, ◌≤◌, inl, inr, ℕ, ◌+◌, ◌-◌, ◌==◌, Bool, true, false, List, [], ◌∷◌, ◌++◌, refl, sym, ◌∙◌, ap, subst, arith, map}
use Rattle.std.specs.Prelude.{IsPermutation, All, if◌then◌else◌}
use Rattle.class_disk.proofs.Common.{room_in_all, cases_Bool, eqb-true, IsPermutation-sym, IsPermutation-trans, IsPermutation-cons, IsPermutation-middle, IsPermutation-append_right, IsPermutation-append_comm, All-permutation, All-tail, Rules, State, Climb, DeviceLabel, DeviceView, IsOrderly, IsTopmost, HandsUp, Outcome, Way, goes_whole, Note, Sent, EndedBy, EndedAre, IsOver, noted_busy, class_rules, IsPort, EndsAs, HasReason, unfinished_by, Opened, TableView, all_open, ended_in, ended_part, ended_at, ended_books, busy_left, note, note_by, known, knowns, tickets_held, tickets_open, IsCause, IsAsked, IsSpotted, IsOpen, AreKept, AreBelow, tickets, most_over, slot_at, place_at, payload_in, ticket_for, Ticket, AllOut, TransferPacket, IsTaking, IsMidway, TakesOne}
use Rattle.class_disk.specs.declared.parts.Part.{Part}
use Rattle.class_disk.specs.declared.parts.Ended.{Ended}
use Rattle.class_disk.proofs.Rooms.{out_any_order}
use Rattle.class_disk.proofs.Retaking.{known_at}
use Rattle.class_disk.proofs.Finishing.{notes_taken}
use Rattle.class_disk.proofs.Standing.{is_put}
use Rattle.class_disk.proofs.Noting.{PartStands, ended-append, parts_now, rooms_now}
use Rattle.class_disk.proofs.Handed.{Handed}
use Rattle.class_disk.proofs.Changing.{o_now, b_now, each_entry, all_parts, packets_stay, left_now, long_now, known_new, some_now, busy_now, busy_is, over_now, causes_now, open_now, noted_restarts}
use Rattle.class_disk.proofs.Returning.{cause_of, over_outcome, packets_taken, fewer_packets, part_spotted, part_asked}
use Rattle.class_disk.proofs.HandedPart.{same_request, taking_here, entry_open, was_sent_as, as_many_places, next_stays, removing_stays, is_buffered, is_written, unsent_as}

-- THE LIST OF THE ENDED

-- one that had not ended, and now may have
ended_middle : (before : List (ℕ × Opened)) (slot : ℕ) (o o' : Opened) (after : List (ℕ × Opened)) (ended : List ℕ)
    → 0 < o.unfinished → IsPermutation ended (ended_in (before ++ ((slot, o) ∷ after)))
    → IsPermutation (if o'.unfinished == 0 then ended ++ slot ∷ [] else ended) (ended_in (before ++ ((slot, o') ∷ after)))
ended_middle before slot o o' after ended some h =
    let not_yet : (o.unfinished == 0) ≡ false = elim (cases_Bool (o.unfinished == 0)) [
      | inl yes' ↦ absurd (let e = eqb-true o.unfinished 0 yes' in omega arith)
      | inr no' ↦ no'
    ] in
    let old : ended_in (before ++ ((slot, o) ∷ after)) ≡ ended_in before ++ ended_in after =
    ended-append before ((slot, o) ∷ after) ∙ ap (λ (t : Bool). ended_in before ++
    (if t then slot ∷ ended_in after else ended_in after)) not_yet in
    subst (IsPermutation (if o'.unfinished == 0 then ended ++ slot ∷ [] else ended)) (sym (ended-append before ((slot, o') ∷ after)))
    (by (o'.unfinished == 0) (subst (IsPermutation ended) old h))
  where
    by : (t : Bool) → IsPermutation ended (ended_in before ++ ended_in after) → IsPermutation (if t then ended ++ slot ∷ [] else ended)
        (ended_in before ++ (if t then slot ∷ ended_in after else ended_in after))
    by false p = p
    by true p =
        IsPermutation-trans _ _ _ (IsPermutation-append_comm ended (slot ∷ []))
        (IsPermutation-trans _ _ _ (IsPermutation-cons slot _ _ p)
        (IsPermutation-sym _ _ (IsPermutation-middle (ended_in before) slot (ended_in after))))

module _ {takes : Bool} (v : DeviceView) (b : TableView) (climb : Climb) (spot : ℕ) (v' : DeviceView)
    (h : HandsUp takes v climb spot v') (ordered : IsOrderly v) (packet : TransferPacket) (payload_is : payload_in packet ≡ h.answer.payload)
    (rooms_step : (others : List Ticket) → AllOut v others → AllOut v' (ticket_for h.answer.request packet ∷ others))
    (d : Handed b h.answer.packet.number h.answer.packet.spot) (some : 0 < d.o.unfinished) (way : Way) (outcome : Outcome) (ends : EndsAs way h.answer.status outcome)
    (reason : HasReason d.o.irp.cancelled b.removing d.o.restarts outcome) where
  abbrev slot : ℕ
  slot = slot_at b.owners h.answer.packet.spot

  abbrev place : ℕ
  place = place_at b.owners h.answer.packet.spot

  abbrev rules : Rules
  rules = class_rules v.rules

  abbrev ended : Ended
  ended = record { packet = packet; outcome = outcome }

  abbrev s : PartStands b slot place d.o d.part h.answer.packet.number h.answer.packet.spot
  s = d.stands

  abbrev gone : Part
  gone = ended_part ended d.part

  abbrev left : ℕ
  left = d.o.unfinished - 1

  abbrev ended_slots : List ℕ
  ended_slots = if left == 0 then b.ended ++ slot ∷ [] else b.ended

  abbrev o' : Opened
  o' = o_now rules s gone d.o.restarts left b.next_packet ended_slots

  abbrev b' : TableView
  b' = b_now rules s gone d.o.restarts left b.next_packet ended_slots

  -- the table, part by part
  pub books_are : ended_books slot (ended_at place ended d.part d.o) b ≡ b'
  books_are =
      ap (λ ps. ended_books slot (record d.o { parts = ps; unfinished = left }) b)
      (parts_now b slot place d.o d.part h.answer.packet.number h.answer.packet.spot s ended)
      ∙ ap (λ es. record b { opens = es; ended = ended_slots }) (is_put b.opens slot d.o s.stands o')

  busy_stays : noted_busy (note rules d.part ∷ []) ≤ noted_busy (note rules gone ∷ [])
  busy_stays = let e = ap (λ (n : Note). noted_busy (n ∷ [])) is_note in omega arith
    where
      is_note : note rules d.part ≡ Sent h.answer.packet.number d.part.restarts
      is_note = ap (note_by rules d.part) s.is_below

  module _ (first : State) (labels : List DeviceLabel)
      (m : IsMidway (EndedBy way) first labels v b) where
    w : IsOpen rules b.owners (slot, d.o)
    w = entry_open h ordered d m

    taken : IsTaking rules first (labels ++ h.left.starts) v'.state
        (known_at (known rules d.o) (map (note rules) s.front) (note rules gone) (map (note rules) s.back) ∷ map (known rules)
        (map (λ (e : ℕ × Opened). e.1) (s.stands.before ++ s.stands.after)))
        × EndedAre (EndedBy way) v.rules v'.state
    taken =
        notes_taken takes v climb spot v' h m.port ordered first labels (known rules d.o) (map (note rules) s.front)
        (map (note rules) s.back) d.part.restarts _
        (taking_here h ordered d m) gone ended refl payload_is
        (as_many_places h ordered d m) refl way m.ended ends

    taking_then : IsTaking rules first (labels ++ h.left.starts) v'.state (knowns rules b')
    taking_then =
        let t = taken.0 in
        record {
          j = t.j;
          same = t.same;
          knows = IsPermutation-trans _ _ _ t.knows (IsPermutation-sym _ _
              (known_new rules s gone d.o.restarts left b.next_packet ended_slots));
          keeps = t.keeps;
          sound = t.sound;
          counted = t.counted;
          next_above = t.next_above;
          run = t.run;
        }

    -- why it ended
    many : d.o.restarts + busy_left outcome ≤ busy_now rules s gone d.o.restarts left b.next_packet ended_slots
    many =
        let a = w.restarts in
        let e = noted_restarts rules d.o.parts w.sent in
        let f = busy_is rules s gone d.o.restarts left b.next_packet ended_slots in
        let g = ap (λ (n : Note). noted_busy (n ∷ [])) (was_sent_as h ordered d m) in
        omega arith

    cause : IsCause d.o.irp.cancelled b.removing (busy_now rules s gone d.o.restarts left b.next_packet ended_slots) outcome
    cause = cause_of way d.o.irp.cancelled b.removing d.o.restarts _ h.answer.status outcome many ends reason
        (λ is. unsent_as h ordered d m (subst (λ w. EndedAre (EndedBy w) v.rules v.state) is m.ended))

    -- WHAT IS KEPT
    kept_then : AreKept rules b'
    kept_then =
        let k = m.kept in
        let buffered = is_buffered h ordered d m (goes_whole rules.max_transfer d.o.request) packet payload_is way outcome ends in
        let written = is_written h ordered d m packet payload_is outcome in
        let one : unfinished_by d.part.progress ≡ 1 = ap unfinished_by s.is_below in
        let long = long_now rules s gone d.o.restarts left b.next_packet ended_slots in
        let still = left_now rules s gone d.o.restarts left b.next_packet ended_slots in
        record {
          sizes = k.sizes;
          in_hand = k.in_hand;
          opens = each_entry rules s gone d.o.restarts left b.next_packet ended_slots (IsOpen rules b.owners) (IsOpen rules b.owners)
              (open_now rules s gone d.o.restarts left b.next_packet ended_slots refl tt buffered written tt refl w.few (omega arith) w)
              (λ e apart is. is) k.opens;
          ended = ended_middle s.stands.before slot d.o o' s.stands.after b.ended some
              (subst (λ es. IsPermutation b.ended (ended_in es)) s.stands.opens_are k.ended);
          places = let p = k.places in omega arith;
          causes = causes_now rules s gone d.o.restarts left b.next_packet ended_slots busy_stays b.removing cause k.causes;
          budget = let p = k.budget in omega arith;
        }

    -- WHAT IS BELOW
    below_then : AreBelow (record v' { rules = v.rules }) b'
    below_then =
        let next = next_stays h ordered d m in
        let removing = removing_stays h ordered d m in
        let submitted = h.left.moves.same_submitted in
        record {
          removing = m.below.removing ∙ sym removing;
          next_number = let a = m.below.next_number in omega arith;
          sent = let a = m.below.sent in omega arith;
          submitted = subst (λ n. b.submitted ≤ most_over n) (sym h.left.moves.same_most) m.below.submitted;
          asked = all_parts rules s gone d.o.restarts left b.next_packet ended_slots (IsAsked rules v.state.requests)
              (IsAsked rules v'.state.requests) m.kept.opens tt
              (λ x other is. part_asked h rules x is) m.below.asked;
          spotted = all_parts rules s gone d.o.restarts left b.next_packet ended_slots (IsSpotted v.packets)
              (IsSpotted v'.packets) m.kept.opens tt
              (λ x other is. part_spotted h x other is) m.below.spotted;
          topmost = All-tail IsTopmost h.answer.packet v'.packets (All-permutation IsTopmost _ _ (packets_taken h) m.below.topmost);
          some = some_now rules s gone d.o.restarts left b.next_packet ended_slots m.below.some;
          over = over_now rules s gone d.o.restarts left b.next_packet ended_slots busy_stays v'.state.removing
              (over_outcome rules gone (payload_in packet) d.o.irp.cancelled v'.state.removing _ outcome
              (subst (λ t. IsCause d.o.irp.cancelled t (busy_now rules s gone d.o.restarts left b.next_packet ended_slots) outcome)
              (m.below.removing ∙ sym removing) cause))
              (subst (λ t. All (IsOver 17 t) (knowns rules b)) (sym removing) m.below.over);
        }

    midway_then : IsMidway (EndedBy way) first (labels ++ h.left.starts) v' b'
    midway_then =
        subst (λ (r : Rules). IsMidway (EndedBy way) first (labels ++ h.left.starts) (record v' { rules = r }) b')
        (sym h.left.moves.same_rules) (record {
          port = m.port;
          taking = taking_then;
          rooms_out = subst (λ (u : Rules). AllOut (record v' { rules = u }) (tickets b')) h.left.moves.same_rules (out_any_order v' _ _ (IsPermutation-trans _ _ _ (IsPermutation-sym _ _
              (IsPermutation-middle (tickets_held b.held) (ticket_for d.part.request packet) (tickets_open (all_open b))))
              (IsPermutation-append_right (tickets_held b.held) _ _
              (subst (λ (x : TableView). IsPermutation (ticket_for d.part.request packet ∷ tickets_open (all_open b)) (tickets_open (all_open x))) books_are
              (rooms_now b slot place d.o d.part h.answer.packet.number h.answer.packet.spot s ended))))
              (subst (λ q. AllOut v' (ticket_for q packet ∷ tickets b)) (sym (same_request h ordered d m)) (rooms_step _ m.rooms_out)));
          kept = kept_then;
          below = below_then;
          ended = taken.1;
        })

  -- ONE PACKET IS TAKEN
  pub takes_ended : IsPort v.rules → TakesOne way v b v' (ended_books slot (ended_at place ended d.part d.o) b)
  takes_ended port = subst (TakesOne way v b v') (sym books_are) (record {
    starts = h.left.starts;
    still = λ is. (h.left.still port.no_window).0;
    goes_on = record {
      only_starts = h.left.only_starts;
      adapter = h.left.moves.adapter;
      same_rules = h.left.moves.same_rules;
      same_most = h.left.moves.same_most;
      same_places = ap (λ n. n + room_in_all b) h.left.moves.same_places;
      same_last = refl;
      same_submitted = refl;
      same_rooms = refl;
      same_packets = packets_stay rules s gone d.o.restarts left b.next_packet ended_slots;
    };
    fewer =
        let a = fewer_packets h in
        let c = left_now rules s gone d.o.restarts left b.next_packet ended_slots in
        omega arith;
    stays = midway_then;
  })
