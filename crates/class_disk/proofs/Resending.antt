-- A part that came back busy goes down again: what its call needs, and that one packet is taken.
use Rattle.std.proofs.Common.{◌≡◌, ◌<◌, ◌≤◌, inl, inr, ℕ, suc, ◌+◌, ◌-◌, ◌*◌, ◌/◌, ◌^◌, ◌==◌, min, Bool, true, List, [], ◌∷◌, ◌++◌, Some, refl, sym, ◌∙◌, ap, subst, arith, map, length, take}
use Rattle.std.specs.Prelude.{IsPermutation, All, Any, Contains, slice_get, slice_set, if◌then◌else◌}
use Rattle.class_disk.proofs.Common.{room_in_all, map-append, IsPermutation-sym, IsPermutation-trans, Contains-permutation, All-permutation, length_permutation, All-cons, All-tail, All-append, All-contains, moves_joined, Request, Rules, place_count, as_client, OpenRequest, State, IsGiven, HasPlaces, request_number, AreCounted, IsCounted, restarts, IsStart, DeviceStep, Run, as_label, Climb, Irp, StackLocation, DeviceLabel, Start, Act, Fault, Return, DeviceView, Packet, Carries, IsOrderly, packet_of, packet_number, IsTopmost, whole_for, HandsUp, Submits, IsAt, Sizes, Progress, Returned, Note, Sent, Known, class_rules, AreSizes, again_part, note, note_by, known, knowns, tickets_held, tickets_open, IsAsked, IsAskedBy, IsSpotted, IsSpottedBy, IsOpen, AreKept, AreBelow, tickets, most_over, Ticket, AllOut, TransferPacket, IsTaking, IsMidway, TakesOne, CanSendAgain, SendsDownAgain}
use Rattle.irp.specs.Climb.{above as locations_above}
use Rattle.class_disk.specs.declared.parts.Part.{Part}
use Rattle.class_disk.specs.declared.parts.Progress.TheVariants.{Ready, Below, Ended as HasEnded}
use Rattle.class_disk.specs.inside.Invariant.{WasSent, EndedAre, IsOver, HasSome, noted_busy}
use Rattle.class_disk.specs.inside.Parts.{GoesAgain, payload_in, ticket_for, tickets_of, ticket_by, restarts_of, unfinished_by}
use Rattle.class_disk.specs.inside.TableView.{Opened, TableView, opened, all_open, ended_in, restarts_left, open_at, put_at}
use Rattle.class_disk.specs.inside.Owners.{slot_at, place_at, IsOwnedBy, AreOwnedFrom}
use Rattle.class_disk.proofs.Rooms.{out_less}
use Rattle.class_disk.proofs.Restarting.{noted_back}
use Rattle.class_disk.proofs.NotedBusy.{noted_few}
use Rattle.class_disk.proofs.NewRequest.{parts_cut}
use Rattle.class_disk.proofs.Retaking.{known_at}
use Rattle.class_disk.proofs.Acting.{map_there}
use Rattle.class_disk.proofs.CoupledRun.{Contains-map}
use Rattle.class_disk.proofs.Asking.{asks_own, asks_run, asks_submitted}
use Rattle.class_disk.proofs.Finishing.{goes_again}
use Rattle.class_disk.proofs.Standing.{is_put, set_there}
use Rattle.class_disk.proofs.Noting.{PartStands, owned_at, tickets_of-append, tickets_open-append}
use Rattle.class_disk.proofs.Handed.{Handed}
use Rattle.class_disk.proofs.Changing.{b_now, each_entry, all_parts, packets_stay, left_now, long_now, known_old, known_new, some_now, over_now, causes_now, open_now, restarts-append}
use Rattle.class_disk.proofs.Returning.{packets_taken, fewer_packets, part_spotted, part_asked}
use Rattle.class_disk.proofs.HandedPart.{taking_here, entry_open, same_request, was_sent_as, open_below, no_starts, next_stays, removing_stays}
use Rattle.class_disk.proofs.PortRules.{port_rules}

-- as many packets are left as may be sent
pub few_enough : (n next left sub most : ℕ) → n < next → 1 ≤ left → next + left + sub ≤ sub * 2 ^ 17 + 1 → sub ≤ min (most / 2 ^ 17)
    (2 ^ 63) → (n < most) × (next < 2 ^ 80)
few_enough n next left sub most low some budget few = (omega arith, omega arith)

-- LABELS KEEP the number of the next request, and whether the layer is removed
step_keeps : (below : Rules) (s : State) (label : DeviceLabel) (s' : State) → DeviceStep below s label s' →
    (s'.next_request ≡ s.next_request) × (s'.removing ≡ s.removing)
step_keeps below s (Start n tag block) s' h = (h.after.next_request, h.after.removing)
step_keeps below s (Act n bytes) s' h = (h.after.next_request, h.after.removing)
step_keeps below s (Fault n) s' h = (h.after.next_request, h.after.removing)
step_keeps below s (Return n class) s' h = (h.after.next_request, h.after.removing)

pub run_keeps : (below : Rules) (labels : List DeviceLabel) (s s' : State) → Run below s (map as_label labels) s' →
    (s'.next_request ≡ s.next_request) × (s'.removing ≡ s.removing)
run_keeps below [] s s' run = (sym run.next_request, sym run.removing)
run_keeps below (label ∷ labels) s s' (mid, inl (free, step), run) =
    let a = step_keeps below s label mid step in
    let r = run_keeps below labels mid s' run in
    (r.0 ∙ a.0, r.1 ∙ a.1)
run_keeps below (label ∷ labels) s s' (mid, inr owing, run) = absurd owing

-- a packet with one location has none above it
pub none_above : (irp : Irp) (own : StackLocation) → irp.locations.items ≡ own ∷ [] → locations_above irp ≡ []
none_above irp own is =
    let e : length (own ∷ []) - 1 ≡ 0 = omega arith in
    ap (λ items. take (length items - 1) items) is ∙ ap (λ n. take n (own ∷ [])) e

-- the same sizes by the rules below
pub sizes_below : (sizes : Sizes) (rules : Rules) → AreSizes sizes (class_rules rules) → AreSizes sizes rules
sizes_below sizes rules h = record {
  sector_size = h.sector_size;
  max_transfer = h.max_transfer;
  whole = record { as_many = h.whole.as_many; one_disk = h.whole.one_disk; some_bytes = h.whole.some_bytes };
  keeps_bytes = h.keeps_bytes;
}

module _ {takes : Bool} (v : DeviceView) (b : TableView) (brought : TransferPacket) (climb : Climb) (v' : DeviceView)
    (h : HandsUp takes v climb brought.room.spot v') (ordered : IsOrderly v) (takes_srb : takes ≡ true) (payload_is : payload_in brought ≡ h.answer.payload)
    (rooms_step : (others : List Ticket) → AllOut v others → AllOut v' (ticket_for h.answer.request brought ∷ others))
    (d : Handed b h.answer.packet.number h.answer.packet.spot) (g : GoesAgain Returned d.o.irp.cancelled b.removing d.o.restarts h.answer.status) where
  abbrev slot : ℕ
  slot = slot_at b.owners h.answer.packet.spot

  abbrev place : ℕ
  place = place_at b.owners h.answer.packet.spot

  abbrev rules : Rules
  rules = class_rules v.rules

  abbrev s : PartStands b slot place d.o d.part h.answer.packet.number h.answer.packet.spot
  s = d.stands

  abbrev again_books : ℕ → ℕ → TableView
  again_books number spot = b_now rules s (again_part number spot d.part) (d.o.restarts + 1) d.o.unfinished (b.next_packet + 1) b.ended

  -- a restart is used up
  left_less : (number spot : ℕ) → restarts_left (again_books number spot).opens + 1 ≡ restarts_left b.opens
  left_less number spot =
      let e = left_now rules s (again_part number spot d.part) (d.o.restarts + 1) d.o.unfinished (b.next_packet + 1) b.ended in
      let few = g.few in
      omega arith

  module _ (first : State) (labels : List DeviceLabel)
      (m : IsMidway WasSent first labels v b) where
    w : IsOpen rules b.owners (slot, d.o)
    w = entry_open h ordered d m

    -- WHAT THE CALL NEEDS
    pub can_again : (open_at slot b.opens ≡ Some d.o) → (slice_get d.o.parts place ≡ Some d.part)
        → CanSendAgain v' b slot place brought (tickets b) d.o d.part
    can_again is_open is_there =
        let next = next_stays h ordered d m in
        let removing = removing_stays h ordered d m in
        let asks : d.part.request ≡ h.answer.request = same_request h ordered d m in
        let same_rules : v'.rules ≡ v.rules = h.left.moves.same_rules in
        let used = left_less 0 0 in
        let enough = few_enough v.submitted b.next_packet (restarts_left b.opens) b.submitted v.most m.below.sent
        (omega arith) m.kept.budget m.below.submitted in
        let of_one : d.part.restarts ≤ d.o.restarts =
        (let a = w.restarts in let e = ap restarts_of s.parts_are ∙ restarts-append s.front (d.part ∷ s.back) in omega arith) in
        record {
          submit = record {
            rooms_out = subst (λ q. AllOut v' (ticket_for q brought ∷ tickets b)) (sym asks) (rooms_step _ m.rooms_out);
            not_removing = removing ∙ (sym m.below.removing ∙ g.not_removing);
            number = let a = m.below.next_number in omega arith;
            few = let a = h.left.moves.same_submitted in let c = h.left.moves.same_most in let e = enough.0 in omega arith;
            can_number = record { count = enough.1 };
            sizes = subst (AreSizes b.sizes) (sym same_rules) (sizes_below b.sizes v.rules m.kept.sizes);
          };
          is_open = is_open;
          is_there = is_there;
          few_restarts = (let few = g.few in omega arith, let few = g.few in omega arith);
          carries =
              subst (λ t. Carries t v'.rules d.part.request (payload_in brought)) takes_srb
              (subst (λ r. Carries takes r d.part.request (payload_in brought)) (sym same_rules)
              (subst (λ r. Carries takes v.rules r (payload_in brought)) (sym asks)
              (subst (Carries takes v.rules h.answer.request) (sym payload_is) (h.brought.carries g.busy))));
        }

  -- ONE PACKET IS TAKEN
  module _ (ordered' : IsOrderly v') (v'' : DeviceView) (b'' : TableView) (x : SendsDownAgain v' b slot place brought d.o d.part v'' b'')
      (asks : d.part.request ≡ h.answer.request) where
    abbrev number : ℕ
    number = x.packet'.irp.value.number

    abbrev sent_again_part : Part
    sent_again_part = again_part number brought.room.spot d.part

    abbrev b_again : TableView
    b_again = again_books number brought.room.spot

    abbrev packet : Packet
    packet = packet_of x.packet'.irp.value brought.room.spot

    number_is : number ≡ b.next_packet
    number_is = x.sends.sends.own.is_number

    -- the table, part by part
    set_part : (o : Opened) (old p : Part) → o.parts ≡ s.front ++ (old ∷ s.back) → slice_set o.parts place p ≡ s.front ++ (p ∷ s.back)
    set_part o old p is = ap (λ ps. slice_set ps place p) is ∙ ap (λ n. slice_set (s.front ++ (old ∷ s.back)) n p) (sym s.place)
        ∙ set_there s.front old p s.back

    abbrev o_again : Opened
    o_again = record d.o { parts = s.front ++ (sent_again_part ∷ s.back); restarts = d.o.restarts + 1 }

    again_is : x.sends.o' ≡ o_again
    again_is =
        x.sends.sends.after ∙ ap (λ ps. record d.o { parts = ps; restarts = d.o.restarts + 1 }) (set_part d.o d.part _ s.parts_are)
        ∙ ap (λ n. record d.o { parts = s.front ++ (again_part n brought.room.spot d.part ∷ s.back); restarts = d.o.restarts + 1 }) (sym number_is)

    books_are : b'' ≡ b_again
    books_are =
        x.sends.after ∙ ap (λ o. record b { opens = put_at slot o b.opens; next_packet = b.next_packet + 1 }) again_is
        ∙ ap (λ es. record b { opens = es; next_packet = b.next_packet + 1 }) (is_put b.opens slot d.o s.stands o_again)

    -- what was submitted
    down : Submits v' packet h.answer.request h.answer.payload v''
    down = subst (λ p. Submits v' packet h.answer.request p v'') payload_is (subst (λ r. Submits v' packet r (payload_in brought) v'') asks x.submits)

    same_rules : v''.rules ≡ v.rules
    same_rules = down.moves.same_rules ∙ h.left.moves.same_rules

    kept_run : (v''.state.next_request ≡ number + 1) × (v''.state.removing ≡ v'.state.removing)
    kept_run =
        let r = run_keeps v'.rules down.starts down.opened v''.state down.moves.run in
        (r.0 ∙ down.opens.after.next_request, r.1 ∙ down.opens.after.removing)

    packets_again : IsPermutation (packet ∷ v'.packets) v''.packets
    packets_again = IsPermutation-sym _ _ down.moves.same_packets

    -- a part that is below stays where it is
    later_spot : (n spot : ℕ) → Any (IsAt spot n) v'.packets → Any (IsAt spot n) v''.packets
    later_spot n spot (i, y, low, is, at) =
        let c = Contains-permutation _ _ y packets_again (suc i, omega arith, is) in
        (c.0, y, c.1, c.2, at)

    given_number : (n spot : ℕ) → Any (IsAt spot n) v'.packets → n < v'.state.next_request
    given_number n spot (i, y, low, is, at) =
        let c : Contains (map request_number v'.state.requests) y.number = Contains-permutation _ _ y.number ordered'.packets
        (Contains-map packet_number v'.packets y (i, low, is)) in
        let q = map_there request_number v'.state.requests y.number c in
        let given : q.0.number < v'.state.next_request = All-contains
        (IsGiven v'.state.next_request) v'.state.requests q.0 ordered'.distinct.given q.1 in
        let e = at.is_number in
        let f : q.0.number ≡ y.number = q.2 in
        omega arith

    asked_still : (r : Request) (p : Progress) → IsSpottedBy v'.packets p → IsAskedBy rules v'.state.requests r p
        → IsAskedBy rules v''.state.requests r p
    asked_still r (Ready unsent) spotted is = tt
    asked_still r (HasEnded ended) spotted is = tt
    asked_still r (Below n spot) spotted is = asks_submitted rules r n v' packet h.answer.request h.answer.payload v'' (given_number n spot spotted) is down

    spotted_still : (p : Progress) → IsSpottedBy v'.packets p → IsSpottedBy v''.packets p
    spotted_still (Ready unsent) is = tt
    spotted_still (HasEnded ended) is = tt
    spotted_still (Below n spot) is = later_spot n spot is

    own_asked : IsAsked rules v''.state.requests sent_again_part
    own_asked =
        asks_run rules d.part.request number v'.rules down.starts down.opened v''.state
        (asks_own rules d.part.request number v'.rules v'.state _ down.opened ordered'.distinct
        (ap (λ (r : Rules). as_client r h.answer.request []) h.left.moves.same_rules ∙ ap (λ r. as_client rules r [])
        (sym asks)) down.opens) down.moves.run

    own_spotted : IsSpotted v''.packets sent_again_part
    own_spotted =
        let c = Contains-permutation _ _ packet packets_again (0, omega arith, refl) in
        (c.0, packet, c.1, c.2, record { is_spot = refl; is_number = refl })

    own_topmost : IsTopmost packet
    own_topmost = none_above x.packet'.irp.value _ x.sends.sends.own.location

    -- rooms stay as they are
    rooms_stay : tickets_open (all_open b_again) ≡ tickets_open (all_open b)
    rooms_stay =
        let xs : List Opened = map opened s.stands.before in
        let ys : List Opened = map opened s.stands.after in
        let old : tickets_open (all_open b) ≡ tickets_open xs ++ (tickets_of d.o.parts ++ tickets_open ys) =
        ap (λ os. tickets_open (map opened os)) s.stands.opens_are ∙ ap tickets_open
        (map-append opened s.stands.before ((slot, d.o) ∷ s.stands.after)) ∙ tickets_open-append xs (d.o ∷ ys) in
        let new : tickets_open (all_open b_again) ≡ tickets_open xs ++ (tickets_of o_again.parts ++ tickets_open ys) =
        ap tickets_open (map-append opened s.stands.before ((slot, o_again) ∷ s.stands.after)) ∙ tickets_open-append xs (o_again ∷ ys) in
        let of_old : tickets_of d.o.parts ≡ tickets_of s.front ++ tickets_of s.back = ap tickets_of s.parts_are ∙ tickets_of-append s.front
        (d.part ∷ s.back) ∙ ap (λ p. tickets_of s.front ++ (ticket_by d.part.request p ++ tickets_of s.back)) s.is_below in
        let of_new : tickets_of o_again.parts ≡ tickets_of s.front ++ tickets_of s.back = tickets_of-append s.front (sent_again_part ∷ s.back) in
        new ∙ ap (λ zs. tickets_open xs ++ (zs ++ tickets_open ys)) (of_new ∙ sym of_old) ∙ sym old

    -- and so do the requests that have ended
    ended_stay : ended_in b_again.opens ≡ ended_in b.opens
    ended_stay = same s.stands.before ∙ sym (ap ended_in s.stands.opens_are)
      where
        same : (es : List (ℕ × Opened)) → ended_in (es ++ ((slot, o_again) ∷ s.stands.after)) ≡ ended_in
            (es ++ ((slot, d.o) ∷ s.stands.after))
        same [] = refl
        same (e ∷ es) = ap (λ zs. if e.1.unfinished == 0 then e.0 ∷ zs else zs) (same es)

    busy_more : noted_busy (note rules d.part ∷ []) ≤ noted_busy (note rules sent_again_part ∷ [])
    busy_more = let e = ap (λ (n : Note). noted_busy (n ∷ [])) is_note in omega arith
      where
        is_note : note rules d.part ≡ Sent h.answer.packet.number d.part.restarts
        is_note = ap (note_by rules d.part) s.is_below

    module _ (first : State) (labels : List DeviceLabel)
        (m : IsMidway WasSent first labels v b) where
      abbrev others : List Known
      others = map (known rules) (map opened (s.stands.before ++ s.stands.after))

      beside : (P : Known → Type 0) → All P (knowns rules b) → All P others
      beside P all =
          All-tail P _ others (All-permutation P _ _ (known_old rules s sent_again_part (d.o.restarts + 1) d.o.unfinished
          (b.next_packet + 1) b.ended) all)

      some_places : 0 < place_count v.rules (as_client v.rules h.answer.request [])
      some_places =
          let y : OpenRequest = h.answer.answers.request in
          let c = open_below h ordered d m in
          let long : 0 < length y.marks = All-contains HasPlaces v.state.requests y ordered.places c in
          let count = (All-contains (IsCounted v.rules) v.state.requests y
          (subst (λ r. AreCounted r v.state) (sym (port_rules m.port)) m.taking.counted) c).places in
          let e : place_count v.rules y.request ≡ place_count v.rules (as_client v.rules h.answer.request []) = ap
          (place_count v.rules) h.answer.is_request in
          omega arith

      -- a restart is left
      few_noted : noted_busy (map (note rules) s.front ++ (Sent h.answer.packet.number d.part.restarts ∷ map (note rules) s.back))
          < noted_back (map (note rules) s.front ++ (Sent h.answer.packet.number d.part.restarts ∷ map (note rules) s.back)) + restarts rules
      few_noted =
          let is : IsOpen rules b.owners (slot, d.o) = entry_open h ordered d m in
          let notes : map (note rules) d.o.parts ≡ map (note rules) s.front ++ (Sent h.answer.packet.number d.part.restarts ∷ map (note rules) s.back) =
          ap (map (note rules)) s.parts_are ∙ map-append (note rules) s.front (d.part ∷ s.back)
          ∙ ap (λ (n : Note). map (note rules) s.front ++ (n ∷ map (note rules) s.back)) (was_sent_as h ordered d m) in
          let noted = noted_few rules d.o.parts (parts_cut rules d.o.request d.o.parts m.kept.sizes.whole.some_bytes m.port.some_transfer is.cut) in
          let all = is.restarts in
          let few = g.few in
          subst (λ ns. noted_busy ns < noted_back ns + restarts rules) notes (omega arith)

      went : IsTaking rules first (labels ++ down.starts) v''.state
          (known_at (known rules d.o) (map (note rules) s.front) (Sent number (suc d.part.restarts))
          (map (note rules) s.back) ∷ others) × EndedAre WasSent v.rules v''.state
      went =
          goes_again takes v climb brought.room.spot v' h m.port ordered first labels (known rules d.o) (map (note rules) s.front)
          (map (note rules) s.back) d.part.restarts others
          (taking_here h ordered d m) packet v'' down m.ended g.busy some_places few_noted g.not_cancelled 17
          (beside (IsOver 17 v.state.removing) m.below.over) (beside (HasSome rules) m.below.some)

      again_note : note rules sent_again_part ≡ Sent number (suc d.part.restarts)
      again_note = let e : d.part.restarts + 1 ≡ suc d.part.restarts = omega arith in ap (Sent number) e

      taking_then : IsTaking rules first (labels ++ down.starts) v''.state (knowns rules b_again)
      taking_then =
          let t = went.0 in
          record {
            j = t.j;
            same = t.same;
            knows = IsPermutation-trans _ _ _ t.knows (IsPermutation-sym _ _
                (subst (λ (n : Note). IsPermutation (knowns rules b_again)
                (known_at (known rules d.o) (map (note rules) s.front) n (map (note rules) s.back) ∷ others)) again_note
                (known_new rules s sent_again_part (d.o.restarts + 1) d.o.unfinished (b.next_packet + 1) b.ended)));
            keeps = t.keeps;
            sound = t.sound;
            counted = t.counted;
            next_above = t.next_above;
            run = t.run;
          }

      kept_then : AreKept rules b_again
      kept_then =
          let k = m.kept in
          let is : IsOpen rules b.owners (slot, d.o) = entry_open h ordered d m in
          let few = g.few in
          let long = long_now rules s sent_again_part (d.o.restarts + 1) d.o.unfinished (b.next_packet + 1) b.ended in
          let used = left_less number brought.room.spot in
          let its : IsOwnedBy b.owners slot (0 + length s.front) (Below h.answer.packet.number h.answer.packet.spot) =
          subst (IsOwnedBy b.owners slot (0 + length s.front)) s.is_below (owned_at b.owners slot 0 s.front d.part s.back (subst (AreOwnedFrom b.owners slot 0) s.parts_are is.owned)) in
          let owned : IsOwnedBy b.owners slot place (Below number brought.room.spot) = (
            ap (slot_at b.owners) (sym h.answer.is_spot),
            ap (place_at b.owners) (sym h.answer.is_spot),
            subst (λ n. n < length b.owners) h.answer.is_spot its.2,
          ) in
          record {
            sizes = k.sizes;
            in_hand = k.in_hand;
            opens = each_entry rules s sent_again_part (d.o.restarts + 1) d.o.unfinished (b.next_packet + 1) b.ended (IsOpen rules b.owners)
                (IsOpen rules b.owners)
                (open_now rules s sent_again_part (d.o.restarts + 1) d.o.unfinished (b.next_packet + 1) b.ended refl tt tt tt owned
                (omega arith) (omega arith)
                (ap (λ p. d.o.unfinished + unfinished_by p) s.is_below) is)
                (λ e apart it. it) k.opens;
            ended = subst (IsPermutation b.ended) (sym ended_stay) k.ended;
            places = let p = k.places in omega arith;
            causes = causes_now rules s sent_again_part (d.o.restarts + 1) d.o.unfinished
                (b.next_packet + 1) b.ended busy_more b.removing tt k.causes;
            budget = let p = k.budget in omega arith;
          }

      below_then : AreBelow (record v'' { rules = v.rules }) b_again
      below_then =
          let next = next_stays h ordered d m in
          let removing : v''.state.removing ≡ v.state.removing = kept_run.1 ∙ removing_stays h ordered d m in
          record {
            removing = m.below.removing ∙ sym removing;
            next_number = let a = kept_run.0 in let c = number_is in omega arith;
            sent = let a = m.below.sent in let c = down.moves.same_submitted in let e = h.left.moves.same_submitted in omega arith;
            submitted = subst (λ n. b.submitted ≤ most_over n) (sym (down.moves.same_most ∙ h.left.moves.same_most)) m.below.submitted;
            asked = all_parts rules s sent_again_part (d.o.restarts + 1) d.o.unfinished (b.next_packet + 1) b.ended
                (λ y. IsAsked rules v.state.requests y × IsSpotted v.packets y) (IsAsked rules v''.state.requests) m.kept.opens own_asked
                (λ y other is. asked_still y.request y.progress (part_spotted h y other is.1) (part_asked h rules y is.0))
                (λ i e low i2 e2 low2. (m.below.asked i e low i2 e2 low2, m.below.spotted i e low i2 e2 low2));
            spotted = all_parts rules s sent_again_part (d.o.restarts + 1) d.o.unfinished (b.next_packet + 1) b.ended
                (IsSpotted v.packets) (IsSpotted v''.packets) m.kept.opens own_spotted
                (λ y other is. spotted_still y.progress (part_spotted h y other is)) m.below.spotted;
            topmost = All-permutation IsTopmost _ _ packets_again (All-cons IsTopmost packet v'.packets own_topmost
                (All-tail IsTopmost h.answer.packet v'.packets (All-permutation IsTopmost _ _ (packets_taken h) m.below.topmost)));
            some = some_now rules s sent_again_part (d.o.restarts + 1) d.o.unfinished (b.next_packet + 1) b.ended m.below.some;
            over = over_now rules s sent_again_part (d.o.restarts + 1) d.o.unfinished
                (b.next_packet + 1) b.ended busy_more v''.state.removing tt
                (subst (λ t. All (IsOver 17 t) (knowns rules b)) (sym removing) m.below.over);
          }

      rooms_again : AllOut (record v'' { rules = v.rules }) (tickets b_again)
      rooms_again =
          let before : AllOut v' (ticket_for d.part.request brought ∷ tickets b) = subst (λ q. AllOut v' (ticket_for q brought ∷ tickets b)) (sym asks) (rooms_step _ m.rooms_out) in
          let r = out_less v' v'' (ticket_for d.part.request brought) (Some (whole_for d.part.request)) (tickets b) x.ordered x.submits.room before in
          subst (λ (u : Rules). AllOut (record v'' { rules = u }) (tickets b_again)) same_rules (subst (λ zs. AllOut v'' (tickets_held b.held ++ zs)) (sym rooms_stay) r)

      midway_then : IsMidway WasSent first (labels ++ (h.left.starts ++ down.starts)) v'' b_again
      midway_then =
          let none : h.left.starts ≡ [] = no_starts h ordered d m in
          subst (λ (ls : List DeviceLabel). IsMidway WasSent first
          (labels ++ (ls ++ down.starts)) v'' b_again) (sym none)
          (subst (λ (r : Rules). IsMidway WasSent first (labels ++ down.starts)
          (record v'' { rules = r }) b_again) (sym same_rules) (record {
            port = m.port;
            taking = taking_then;
            rooms_out = rooms_again;
            kept = kept_then;
            below = below_then;
            ended = went.1;
          }))

    pub takes_again : TakesOne Returned v b v'' b''
    takes_again = subst (TakesOne Returned v b v'') (sym books_are) (record {
      starts = h.left.starts ++ down.starts;
      still = λ is. absurd (cc (is));
      goes_on = record {
        only_starts = All-append IsStart h.left.starts down.starts h.left.only_starts down.only_starts;
        adapter = moves_joined v.adapter h.left.starts v'.adapter down.starts v''.adapter h.left.moves.adapter down.moves.adapter;
        same_rules = same_rules;
        same_most = down.moves.same_most ∙ h.left.moves.same_most;
        same_places = ap (λ n. n + room_in_all b) (down.moves.same_places ∙ h.left.moves.same_places);
        same_last = refl;
        same_submitted = refl;
        same_rooms = refl;
        same_packets = packets_stay rules s sent_again_part (d.o.restarts + 1) d.o.unfinished (b.next_packet + 1) b.ended;
      };
      fewer =
          let a = fewer_packets h in
          let c : length v''.packets ≡ suc (length v'.packets) = length_permutation _ _ packets_again in
          let e = left_less number brought.room.spot in
          omega arith;
      stays = midway_then;
    })
