-- All parts of a request that is being opened are sent, one by one: then the class driver is midway in its call.
use Rattle.std.proofs.Common.{◌≡◌, ◌≢◌, ◌<◌, ℕ, ◌+◌, Bool, List, [], ◌∷◌, ◌++◌, Some, refl, sym, ◌∙◌, ap, subst, arith, length, map, drop, take, get_or, append_assoc}
use Rattle.std.specs.Prelude.{IsPermutation, All, Contains, slice_get}
use Rattle.std.proofs.lemmas.List.{append-nil, length-take-le, take_all, drop_all}
use Rattle.class_disk.proofs.Common.{IsPermutation-sym, IsPermutation-map, All-permutation, Contains-permutation, All-nil, All-cons, All-head, All-tail, All-append, All-contains, All-weaker, Contains-get_or, moves_joined, DeviceLabel, Ticket, Climb, Rules, IsStart, State, DeviceView, IsOrderly, StaysOpen, HandsUp, Place, Progress, Opened, TableView, opened, open_at, part_count_of, part_request_of, note, note_by, known, knowns, IsCauseBy, HaveCauses, IsOpen, WentAs, WentInTurn, IsNothing, IsIfEnded, EndedAre, IsOver, IsOverNote, GoesOn, IsMidway, IsOpening, OpeningSoFar, SendsAll, SendsDown, CanSendPart, class_rules}
use Rattle.class_disk.specs.declared.parts.Part.{Part}
use Rattle.class_disk.specs.declared.parts.Progress.TheVariants.{Ready, Below, Ended as HasEnded}
use Rattle.class_disk.specs.inside.Parts.{IsDown, IsDownBy, WasSent, WasSentBy, unfinished_of, unfinished_by}
use Rattle.class_disk.proofs.OnlyPart.{lent_whole}
use Rattle.class_disk.proofs.Parting.{found_same}
use Rattle.class_disk.proofs.PiecePlaces.{as_many}
use Rattle.class_disk.proofs.ReadyParts.{part, is_there, with_place, place, rooms_left, can_send_part}
use Rattle.class_disk.proofs.SendingOn.{new_part, number_on, part_on, packets_on, table_on, long_on, taking_on, goes_on, sent_on}
use Rattle.class_disk.proofs.Standing.{AreRising}
use Rattle.class_disk.proofs.TakingAll.{stays_there}

-- ALL PARTS ARE BELOW

was_sent : (x : Part) → IsDown x → WasSent x
was_sent x h = by x.progress h
  where
    by : (p : Progress) → IsDownBy p → WasSentBy p
    by (Ready unsent) h = h
    by (Below number spot) h = tt
    by (HasEnded ended) h = tt

all_left : (parts : List Part) → All IsDown parts → unfinished_of parts ≡ length parts
all_left [] all = refl
all_left (x ∷ parts) all =
    let first : unfinished_by x.progress ≡ 1 = by x.progress (All-head IsDown x parts all) in
    let rest = all_left parts (All-tail IsDown x parts all) in
    omega arith
  where
    by : (p : Progress) → IsDownBy p → unfinished_by p ≡ 1
    by (Ready unsent) h = refl
    by (Below number spot) h = refl
    by (HasEnded ended) h = absurd h

no_cause : (cancelled removing : Bool) (busy : ℕ) (x : Part) → IsDown x → IsCauseBy cancelled removing busy x.progress
no_cause cancelled removing busy x h = by x.progress h
  where
    by : (p : Progress) → IsDownBy p → IsCauseBy cancelled removing busy p
    by (Ready unsent) h = tt
    by (Below number spot) h = tt
    by (HasEnded ended) h = absurd h

all_over : (rules : Rules) (cancelled removing : Bool) (busy : ℕ) (parts : List Part) → All IsDown parts → All
    (IsOverNote cancelled removing 17 busy) (map (note rules) parts)
all_over rules cancelled removing busy [] all = All-nil (IsOverNote cancelled removing 17 busy)
all_over rules cancelled removing busy (x ∷ parts) all =
    All-cons (IsOverNote cancelled removing 17 busy) (note rules x) (map (note rules) parts) (by x.progress (All-head IsDown x parts all))
    (all_over rules cancelled removing busy parts (All-tail IsDown x parts all))
  where
    by : (p : Progress) → IsDownBy p → IsOverNote cancelled removing 17 busy (note_by rules x p)
    by (Ready unsent) h = absurd h
    by (Below number spot) h = tt
    by (HasEnded ended) h = absurd h

module _ {v : DeviceView}
    {b : TableView} {slot k : ℕ}
    (h : IsOpening v b slot k) (at_end : k ≡ length h.o.parts) where
  abbrev rules : Rules
  rules = class_rules v.rules

  down : All IsDown h.o.parts
  down = subst (All IsDown) (ap (λ n. take n h.o.parts) at_end ∙ take_all (length h.o.parts) h.o.parts (omega arith)) h.sent

  none_left : length (drop k h.o.parts) ≡ 0
  none_left = ap (λ n. length (drop n h.o.parts)) at_end ∙ ap length (drop_all (length h.o.parts) h.o.parts (omega arith))

  is_open : IsOpen rules b.owners (slot, h.o)
  is_open = record {
    cut = h.cut;
    carries = h.carries;
    sent = All-weaker IsDown WasSent was_sent h.o.parts down;
    buffered = h.buffered;
    written = h.written;
    owned = h.owned;
    lent = h.lent ∙ lent_whole rules.max_transfer h.o.request k (at_end ∙ as_many (part_request_of rules.max_transfer h.o.request) 0 (part_count_of rules.max_transfer h.o.request) h.o.parts h.cut.parts_are);
    restarts = h.restarts.0 ∙ sym h.restarts.1;
    few = let e = h.restarts.0 in omega arith;
    unfinished = h.unfinished ∙ sym (all_left h.o.parts down);
  }

  others_known : IsPermutation (knowns rules b) (known rules h.o ∷ map (known rules) (map opened h.others))
  others_known = IsPermutation-map (known rules) _ _ (IsPermutation-map opened _ _ h.others_are)

  -- nothing is left to be sent
  pub opened_midway : (first : State) (labels : List DeviceLabel) → OpeningSoFar v b first labels
      → IsMidway IsNothing first labels v b
  opened_midway first labels so_far = record {
    port = h.port;
    taking = so_far.taking;
    rooms_out = h.rooms_out;
    kept = record {
      sizes = h.sizes;
      in_hand = h.in_hand;
      opens = All-permutation (IsOpen rules b.owners) _ _ (IsPermutation-sym _ _ h.others_are) (All-cons (IsOpen rules b.owners) (slot, h.o) h.others is_open h.opens);
      ended = h.ended;
      places = h.places;
      causes = All-permutation (HaveCauses rules b.removing) _ _ (IsPermutation-sym _ _ h.others_are)
          (All-cons (HaveCauses rules b.removing) (slot, h.o) h.others
          (All-weaker IsDown _ (no_cause h.o.irp.cancelled b.removing _) h.o.parts down) h.causes);
      budget = let p = h.budget in let l = none_left in omega arith;
    };
    below = record {
      removing = h.removing;
      next_number = h.next_number_is;
      sent = h.few;
      submitted = h.submitted;
      asked = h.asked;
      spotted = h.spotted;
      topmost = h.topmost;
      some = h.some;
      over = All-permutation (IsOver 17 v.state.removing) _ _ (IsPermutation-sym _ _ others_known)
          (All-cons (IsOver 17 v.state.removing) (known rules h.o) _ (all_over rules h.o.irp.cancelled v.state.removing _ h.o.parts down) h.over);
    };
    ended = h.none_ended;
  }

-- so the layer below has nothing to hand up
pub none_handed : (takes : Bool) (v : DeviceView) (climb : Climb) (spot : ℕ) (v' : DeviceView) → EndedAre IsNothing v.rules v.state
    → HandsUp takes v climb spot v' → ⊥
none_handed takes v climb spot v' none h =
    All-contains (IsIfEnded IsNothing v.rules v.state) v.state.requests h.answer.answers.request none
    (Contains-permutation _ _ h.answer.answers.request (IsPermutation-sym _ _ h.answer.answers.is_open) (0, omega arith, refl)) h.answer.answers.ended

-- ONE BY ONE

-- the parts before this one were sent: all requests below that were there before are as they were
pub record SentSoFar
    (v0 : DeviceView) (b0 : TableView) (slot k : ℕ) (v : DeviceView) (b : TableView) : Type 0 where
  pub starts : List DeviceLabel
  pub goes : GoesOn v0 b0 starts v b
  pub others_stay : All (StaysOpen v.state) v0.state.requests
  pub next_packet : b.next_packet ≡ b0.next_packet + k
  pub in_turn : (o : Opened) → open_at slot b.opens ≡ Some o → WentInTurn b0.next_packet (take k o.parts)
  pub table_stays : (e : ℕ × Opened) → e.0 ≢ slot → Contains b0.opens e → Contains b.opens e
  pub opening : IsOpening v0 b0 slot 0
      → IsOpening v b slot k
  pub taking : (first : State) (labels : List DeviceLabel) → OpeningSoFar v0 b0 first labels → OpeningSoFar v b first (labels ++ starts)
  pub long : (o0 o : Opened) → open_at slot b0.opens ≡ Some o0 → open_at slot b.opens ≡ Some o → length o.parts ≡ length o0.parts

-- one more behind those that went
went_on : (count : ℕ) (parts : List Part) (x : Part) → WentInTurn count parts → WentAs (count + length parts) x.progress → WentInTurn count (parts ++ (x ∷ []))
went_on count [] x all own = (subst (λ n. WentAs n x.progress) (omega arith) own, tt)
went_on count (p ∷ parts) x all own = (all.0, went_on (count + 1) parts x all.1 (subst (λ n. WentAs n x.progress) (omega arith) own))

module _ (v0 : DeviceView)
    (b0 : TableView) (slot : ℕ) where
  pub none_sent : SentSoFar v0 b0 slot 0 v0 b0
  none_sent = record {
    starts = [];
    goes = stays_there v0 b0;
    others_stay = λ i d low. Contains-get_or v0.state.requests i d low;
    next_packet = omega arith;
    in_turn = λ o is_open. tt;
    table_stays = λ e apart c. c;
    opening = λ h. h;
    taking = λ first labels h. subst (OpeningSoFar v0 b0 first) (sym (append-nil labels)) h;
    long = λ o0 o is0 is. ap (λ (x : Opened). length x.parts) (found_same _ _ _ is is0);
  }

  module _ (h0 : IsOpening v0 b0 slot 0) (k count : ℕ)
      (counts : (o : Opened) → open_at slot b0.opens ≡ Some o → count ≡ length o.parts)
      (v : DeviceView) (b : TableView) (rise : AreRising 0 b.opens)
      (so_far : SentSoFar v0 b0 slot k v b) where
    abbrev h : IsOpening v b slot k
    h = so_far.opening h0

    pub counts_now : (w : IsOpening v b slot k) → count ≡ length w.o.parts
    counts_now w = counts h0.o h0.is_open ∙ sym (so_far.long h0.o w.o h0.is_open w.is_open)

    -- the next one can be sent
    pub can_go_on : k < count → IsOrderly v → (others : List Ticket) × (o : Opened) × (x : Part) ×
        (p : Place) × CanSendPart v b slot k others o x p
    can_go_on low ordered =
        let within : k < length h.o.parts = (let e = counts_now h in omega arith) in
        (rooms_left h ordered rise within, h.o, part h ordered rise within, place h ordered rise within, can_send_part h ordered rise within)

    -- it is sent
    module _ (low : k < count) (ordered : IsOrderly v) (v' : DeviceView) (b' : TableView)
        (sends : (o : Opened) (x : Part) (p : Place) → open_at slot b.opens ≡ Some o → slice_get o.parts k ≡ Some x → x.progress ≡ Ready p
        → SendsDown v b slot k o x p v' b') where
      module _ (w : IsOpening v b slot k) where
        within : k < length w.o.parts
        within = let e = counts_now w in omega arith

        abbrev its_place : Place
        its_place = place w ordered rise within

        down_now : SendsDown v b slot k w.o (part w ordered rise within) its_place v' b'
        down_now = sends w.o _ its_place w.is_open (is_there w ordered rise within) (with_place w ordered rise within).is_ready

        opening_next : IsOpening v' b' slot (k + 1)
        opening_next =
            sent_on w ordered rise within v' b' down_now down_now.ordered

      abbrev inside : k < length h.o.parts
      inside = within h

      abbrev x : SendsDown v b slot k h.o (part h ordered rise inside) (place h ordered rise inside) v' b'
      x = down_now h

      next_turn : (o : Opened) → open_at slot b'.opens ≡ Some o → WentInTurn b0.next_packet (take (k + 1) o.parts)
      next_turn o is_open =
          let number = number_on h ordered rise inside v' b' x ∙ so_far.next_packet in
          let long : length (take k h.o.parts) ≡ k = (let low' = inside in length-take-le k h.o.parts (omega arith)) in
          subst (WentInTurn b0.next_packet) (sym (part_on h ordered rise inside v' b' x o is_open))
          (went_on b0.next_packet (take k h.o.parts) (new_part h ordered rise inside v' b' x) (so_far.in_turn h.o h.is_open)
          (number ∙ ap (λ n. b0.next_packet + n) (sym long)))

      pub one_sent : SentSoFar v0 b0 slot (k + 1) v' b'
      one_sent =
          let goes = goes_on h ordered rise inside v' b' x in
          record {
            starts = so_far.starts ++ x.submits.starts;
            goes = record {
              only_starts = All-append IsStart so_far.starts x.submits.starts so_far.goes.only_starts goes.only_starts;
              adapter = moves_joined v0.adapter so_far.starts v.adapter x.submits.starts v'.adapter so_far.goes.adapter goes.adapter;
              same_rules = goes.same_rules ∙ so_far.goes.same_rules;
              same_most = goes.same_most ∙ so_far.goes.same_most;
              same_places = goes.same_places ∙ so_far.goes.same_places;
              same_last = goes.same_last ∙ so_far.goes.same_last;
              same_submitted = goes.same_submitted ∙ so_far.goes.same_submitted;
              same_packets = goes.same_packets ∙ so_far.goes.same_packets;
              same_rooms = goes.same_rooms ∙ so_far.goes.same_rooms;
            };
            others_stay = λ i d low'.
                All-contains (StaysOpen v'.state) v.state.requests (get_or v0.state.requests i d) x.submits.others_stay (so_far.others_stay i d low');
            next_packet = let a = packets_on h ordered rise inside v' b' x in let e = so_far.next_packet in omega arith;
            in_turn = next_turn;
            table_stays = λ e apart c. table_on h ordered rise inside v' b' x e apart (so_far.table_stays e apart c);
            opening = λ w0. opening_next (so_far.opening w0);
            taking = λ first labels t0.
                subst (OpeningSoFar v' b' first) (append_assoc labels so_far.starts x.submits.starts)
                (taking_on h ordered rise inside v' b' x first (labels ++ so_far.starts) (so_far.taking first labels t0));
            long = λ o0 o is0 is. long_on h ordered rise inside v' b' x o is ∙ so_far.long o0 h.o is0 h.is_open;
          }

    -- all are
    pub all_sent : k ≡ count → (first : State) (labels : List DeviceLabel) → OpeningSoFar v0 b0 first labels
        → IsOpening v0 b0 slot 0 → SendsAll first labels v0 b0 slot v b
    all_sent at_end first labels t0 w0 =
        let w : IsOpening v b slot k = so_far.opening w0 in
        record {
          starts = so_far.starts;
          goes_on = so_far.goes;
          in_turn = λ o is_open.
              (let all : take k o.parts ≡ o.parts = ap (λ n. take n o.parts)
              (at_end ∙ counts h0.o h0.is_open ∙ sym (so_far.long h0.o o h0.is_open is_open)) ∙ take_all (length o.parts) o.parts (omega arith) in
              subst (WentInTurn b0.next_packet) all (so_far.in_turn o is_open));
          midway = opened_midway w (at_end ∙ counts_now w) first (labels ++ so_far.starts) (so_far.taking first labels t0);
          others_stay = so_far.others_stay;
          table_stays = so_far.table_stays;
        }
