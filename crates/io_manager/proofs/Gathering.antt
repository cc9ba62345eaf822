-- One request that has ended after another is taken: the run that they make, and what holds meanwhile.
use Rattle.std.proofs.Common.{◌≡◌, ◌≢◌, ◌<◌, ◌≤◌, ℕ, ◌+◌, Bool, true, false, List, [], ◌∷◌, ◌++◌, Option, Some, None, refl, sym, ◌∙◌, ap, subst, arith, map, length, nat_eq, eq-eqb, eqb-true}
use Rattle.std.specs.Prelude.{IsPermutation, IsNone, All, option_map, ◌==◌}
use Rattle.io_manager.proofs.Common.{deque_len, deque_capacity, nat_tests, IsPermutation-refl, IsPermutation-sym, IsPermutation-trans, IsPermutation-append_left, IsPermutation-cons, All-permutation, length_permutation, All-nil, All-head, All-tail, All-cons, All-append, All-weaker, Slab, get, slab_len, NtStatus, moves_joined, Box, Irp, Finished, Removing, Label, Rules, AnswersWith, information, AreDistinct, HavePlaces, request_number, DeviceView, Reserved, IsOrderly, payload_bytes, IsTopmost, IsStart, HandsUp, SameRooms, Settled, Run, as_label, distinct_first, IsSame-refl, IsSame-sym, Limits, Tables, Holder, QueueView, SameQueue, as_answer, unless_answered, end_labels, AreChained, AreCounted, Closes, EndsRemoval, TakesEnded, Gathers, brought, answer_for, done_of, unlabelled}
use Rattle.irp.specs.declared.Done.{Done}
use Rattle.pnp.specs.declared.State.{State as PnpState}
use Rattle.machine.specs.State.{OpenRequest as OpenBelow, State}
use Rattle.io_manager.specs.declared.Answer.{Answer}
use Rattle.io_manager.specs.declared.tables.OpenRequest.{OpenRequest}
use Rattle.io_manager.specs.inside.Ordering.{inserted, HasOtherNumber}
use Rattle.io_manager.specs.inside.Sound.{HasPlaces, WasGiven, AreApart, AreHeld, IsSpotted, IsInState, EndsIf, IsSound, IsSoundWith, SamePlaces, Collects, holder_of}
use Rattle.io_manager.proofs.AdapterJoins.{labels_moved}
use Rattle.io_manager.proofs.Askings.{KeepsAsked, KeepsAsked-same, KeepsAsked-trans, asks_same, as_many, run_keeps, AreHeld-along}
use Rattle.io_manager.proofs.Counted.{AreCounted-ended}
use Rattle.io_manager.proofs.Closing.{number_left, status_left, payload_left, held_at, only_there, is_ended, is_given, brings, kept_slot, kept_number, AreHeld-less, AreChained-ended, AreNumbered-ended}
use Rattle.io_manager.proofs.Inserting.{unless_one_more}
use Rattle.io_manager.proofs.Fitted.{FitsBelow-same, no_length, IsInState-fewer}
use Rattle.io_manager.proofs.NoneToStart.{handed_still}
use Rattle.io_manager.proofs.Ordering.{Run-collected, inserted_is, inserted_rises}

module _ {w : Bool} (takes_srb : Bool) (old new : DeviceView) (spot : ℕ) (irp : Box Irp) (done : Done) (left : done ≡ done_of irp.value) (t t' : Tables) (h : HandsUp takes_srb old (Finished irp) spot new)
    (k : AreHeld w t.requests old.state.requests) (c : Closes t done t') where
  -- THE STEP

  bytes_are : h.answer.bytes ≡ (answer_for c.request done).bytes
  bytes_are =
      let there : (held_at takes_srb old new spot irp done left t.requests h k).request ≡ c.request = only_there takes_srb old new spot irp done left t.requests h k c.slot c.request c.there c.same_number in
      let kind : h.answer.answers.request.request.kind ≡ c.request.kind = sym (held_at takes_srb old new spot irp done left t.requests h k).same_kind ∙ ap (λ r. r.kind) there in
      brings h.answer.answers.request.request.kind h.answer.status h.answer.answers.request.marks (payload_bytes h.answer.payload) h.answer.bytes h.answer.answers.hands_back h.answer.answers.success
      (λ is_read. h.brought.brings (ap (λ q. q.kind) (sym h.answer.is_request) ∙ is_read))
      ∙ ap (λ x. brought x h.answer.status (payload_bytes h.answer.payload)) kind
      ∙ ap (λ s. brought c.request.kind s (payload_bytes h.answer.payload)) (sym (status_left takes_srb old new spot irp done left t.requests h k))
      ∙ ap (λ p. brought c.request.kind done.status (payload_bytes p)) (sym (payload_left takes_srb old new spot irp done left t.requests h k))

  answered_with : AnswersWith old.rules old.state h.answer.packet.number h.answer.status (information h.answer.answers.request.request h.answer.status) h.answer.bytes h.answer.answered
  answered_with = record { answers = h.answer.answers; informs = refl }

  answers_are : AnswersWith old.rules old.state done.number done.status done.information (answer_for c.request done).bytes h.answer.answered
  answers_are =
      let P : ℕ → Type 0 = λ n. AnswersWith old.rules old.state n done.status done.information (answer_for c.request done).bytes h.answer.answered in
      let Q : NtStatus → Type 0 = λ s. AnswersWith old.rules old.state h.answer.packet.number s done.information (answer_for c.request done).bytes h.answer.answered in
      let I : ℕ → Type 0 = λ n. AnswersWith old.rules old.state h.answer.packet.number h.answer.status n (answer_for c.request done).bytes h.answer.answered in
      let R : List ℕ → Type 0 = λ b. AnswersWith old.rules old.state h.answer.packet.number h.answer.status (information h.answer.answers.request.request h.answer.status) b h.answer.answered in
      subst P (sym (number_left takes_srb old new spot irp done left t.requests h k)) (subst Q (sym (status_left takes_srb old new spot irp done left t.requests h k)) (subst I (sym (ap (λ (d : Done). d.information) left ∙ h.climbs.information_is)) (subst R bytes_are answered_with)))

  -- with its spot vacant again
  pub takes_ended : IsOrderly old → IsOrderly new → (rooms : List (Option Reserved)) → SameRooms old.rooms rooms → TakesEnded old t (record new { rooms = rooms }) t'
  takes_ended order order' rooms same_rooms =
      let before : length (h.answer.packet ∷ h.left.others) ≡ length old.packets = length_permutation _ _ h.left.is_in in
      let after : length h.left.others ≡ length new.packets = length_permutation _ _ h.left.moves.same_packets in
      record {
        done = done;
        closes = c;
        answered = h.answer.answered;
        starts = h.left.starts;
        answers = answers_are;
        only_starts = h.left.only_starts;
        same_rules = h.left.moves.same_rules;
        same_rooms = same_rooms;
        run = h.left.moves.run;
        adapter = h.left.moves.adapter;
        fewer = omega arith;
        places_below = h.left.moves.same_places;
        quiet = λ none. handed_still takes_srb old new (Finished irp) spot h order order' none;
      }

  -- WHAT HOLDS AFTER IT

  keeps : KeepsAsked (record old.state { requests = h.answer.answers.others }) new.state
  keeps =
      KeepsAsked-trans (record old.state { requests = h.answer.answers.others }) h.answer.answered new.state
      (KeepsAsked-same (record old.state { requests = h.answer.answers.others }) h.answer.answered (IsSame-sym h.answer.answered (record old.state { requests = h.answer.answers.others }) h.answer.answers.after))
      (run_keeps old.rules h.answer.answered h.left.starts new.state h.left.moves.run)

  number_is : h.answer.answers.request.number ≡ done.number
  number_is = is_ended takes_srb old new spot irp done left t.requests h k

  held_after : AreDistinct old.state → AreHeld w t'.requests new.state.requests
  held_after distinct =
      let differ : All (λ (x : OpenBelow). x.number ≢ h.answer.answers.request.number) h.answer.answers.others = distinct_first request_number old.state.requests h.answer.answers.request h.answer.answers.others distinct.requests h.answer.answers.is_open in
      AreHeld-along t'.requests (record old.state { requests = h.answer.answers.others }) new.state (asks_same _ _ keeps)
      (AreHeld-less t t' done c old.state.requests k h.answer.answers.request h.answer.answers.others number_is h.answer.answers.is_open differ)

  -- the answer is of a request that was open, so of no other answer's number
  others_untaken : AreApart t.requests t.untaken.items → All (HasOtherNumber (answer_for c.request done).number) t.untaken.items
  others_untaken apart = λ i d low same. apart c.slot c.request c.there i d low (same ∙ sym c.same_number)

  apart_after : AreApart t.requests t.untaken.items → AreApart t'.requests t'.untaken.items
  apart_after apart slot x there =
      let kept : (slot ≢ c.slot) × (get t.requests slot ≡ Some x) = kept_slot t t' done c old.state.requests k slot x there in
      let other : x.number ≢ done.number = kept_number t t' done c old.state.requests k slot x there in
      let all : All (HasOtherNumber x.number) (answer_for c.request done ∷ t.untaken.items) =
      All-cons (HasOtherNumber x.number) (answer_for c.request done) t.untaken.items (λ same. other (sym same)) (apart slot x kept.1) in
      subst (λ xs. All (HasOtherNumber x.number) xs) (sym c.untaken) (All-permutation (HasOtherNumber x.number) _ _ (IsPermutation-sym _ _ (inserted_is (answer_for c.request done) t.untaken.items)) all)

  -- no more are open than before
  in_state_after : IsInState t.state old.state → IsInState t'.state new.state
  in_state_after h' =
      let fewer : length (h.answer.answers.request ∷ h.answer.answers.others) ≡ length old.state.requests = length_permutation _ _ h.answer.answers.is_open in
      let now : length new.state.requests ≡ length h.answer.answers.others = as_many (record old.state { requests = h.answer.answers.others }) new.state (asks_same _ _ keeps) in
      subst (λ p. IsInState p new.state) (sym c.same_state) (IsInState-fewer t.state old.state new.state keeps.paused keeps.removing (omega arith) h')

  count_after : (answer : Answer) (answers more : List Answer) → more ≡ inserted answer answers → length more ≡ length answers + 1
  count_after answer answers more is =
      let n : length (answer ∷ answers) ≡ length (inserted answer answers) = length_permutation _ _ (inserted_is answer answers) in
      let m : length more ≡ length (inserted answer answers) = ap length is in
      omega arith

  places_after : (limits : Limits) → HasPlaces limits t → HasPlaces limits t'
  places_after limits p =
      let n : slab_len t'.requests + 1 ≡ slab_len t.requests = c.fewer in
      let m : length t'.untaken.items ≡ length t.untaken.items + 1 = count_after (answer_for c.request done) t.untaken.items t'.untaken.items c.untaken in
      let now : deque_len t'.untaken ≡ length t'.untaken.items = t'.untaken.ok.0 in
      let before : deque_len t.untaken ≡ length t.untaken.items = t.untaken.ok.0 in
      let room : deque_len t.untaken + slab_len t.requests ≤ deque_capacity t.untaken = p.untaken in
      let more : deque_capacity t'.untaken ≡ deque_capacity t.untaken = c.places.untaken in
      let some : 64 ≤ t.answered.places = p.answered in
      let as_many : t'.answered.places ≡ t.answered.places = c.places.answered.0 in
      record {
        labels = ap (λ (q : QueueView Label). q.places) c.same_labels ∙ p.labels;
        answered = omega arith;
        alike = c.places.answered.1 ∙ p.alike ∙ sym (ap (λ (q : QueueView Label). q.keeps) c.same_labels);
        label_bytes = ap (λ (q : QueueView Label). q.keeps_bytes) c.same_labels ∙ p.label_bytes;
        answer_bytes = c.places.answered.2 ∙ p.answer_bytes;
        untaken = omega arith;
        handles = rw c.same_handles p.handles;
        requests = rw c.places.requests p.requests;
      }

  -- one more answer is deferred, and one fewer request is open
  pub few_after : (most : ℕ) → length t.answered.items + slab_len t.requests ≤ most → length t'.answered.items + slab_len t'.requests ≤ most
  few_after most few =
      let n : slab_len t'.requests + 1 ≡ slab_len t.requests = c.fewer in
      let m : length t'.answered.items ≡ length t.answered.items + 1 = count_after (answer_for c.request done) t.answered.items t'.answered.items c.answered in
      omega arith

  given_after : AreDistinct old.state → old.state.next_request ≤ t.next_request → All (WasGiven t.next_request) t.untaken.items → All (WasGiven t'.next_request) t'.untaken.items
  given_after distinct rising given =
      let all : All (WasGiven t.next_request) (answer_for c.request done ∷ t.untaken.items) =
      All-cons (WasGiven t.next_request) (answer_for c.request done) t.untaken.items (is_given takes_srb old new spot irp done left t.requests h k distinct t.next_request rising) given in
      let inserted_all : All (WasGiven t.next_request) (inserted (answer_for c.request done) t.untaken.items) =
      All-permutation (WasGiven t.next_request) _ _ (IsPermutation-sym _ _ (inserted_is (answer_for c.request done) t.untaken.items)) all in
      let P : ℕ → List Answer → Type 0 = λ n xs. All (WasGiven n) xs in
      subst (λ n. P n t'.untaken.items) (sym c.same_next_request) (subst (λ xs. P t.next_request xs) (sym c.untaken) inserted_all)

  -- what the table still holds it held before
  spots_after : All (IsSpotted t.next_request t.requests) old.packets → All (IsSpotted t'.next_request t'.requests) new.packets
  spots_after spots =
      let before : All (IsSpotted t.next_request t.requests) new.packets =
      All-permutation (IsSpotted t.next_request t.requests) _ _ (IsPermutation-sym _ _ h.left.moves.same_packets)
      (All-tail (IsSpotted t.next_request t.requests) h.answer.packet h.left.others (All-permutation (IsSpotted t.next_request t.requests) _ _ h.left.is_in spots)) in
      All-weaker (IsSpotted t.next_request t.requests) (IsSpotted t'.next_request t'.requests)
      (λ packet s. record {
        given = subst (λ n. packet.number < n) (sym c.same_next_request) s.given;
        spot = λ slot x there same. s.spot slot x (kept_slot t t' done c old.state.requests k slot x there).1 same;
      }) new.packets before

  chained_after : AreChained t.handles t.requests t.next_handle t.chains → AreChained t'.handles t'.requests t'.next_handle t'.chains
  chained_after chained =
      subst (λ hs. AreChained hs t'.requests t'.next_handle t'.chains) (sym c.same_handles)
      (subst (λ n. AreChained t.handles t'.requests n t'.chains) (sym c.same_next_handle) (AreChained-ended t t' done c old.state.requests k chained))

  pub sound_after : (put_by : List Answer) (limits : Limits) → w ≡ limits.keeps_bytes → AreDistinct old.state → IsSoundWith put_by limits old t → (rooms : List (Option Reserved)) → IsSoundWith t'.answered.items limits (record new { rooms = rooms }) t'
  sound_after put_by limits same distinct s rooms = record {
    fits = FitsBelow-same limits old (record new { rooms = rooms }) h.left.moves.same_rules h.left.moves.same_most s.fits;
    numbers = record {
      requests = rw c.same_next_request s.numbers.requests;
      handles = rw c.same_next_handle s.numbers.handles;
      rising = rw (c.same_next_request, keeps.next_request) s.numbers.rising;
      submitted = rw (c.same_next_request, h.left.moves.same_submitted) s.numbers.submitted;
    };
    held = subst (λ (b : Bool). AreHeld b t'.requests new.state.requests) same (held_after distinct);
    few = let n : slab_len t'.requests + 1 ≡ slab_len t.requests = c.fewer in let m : slab_len t.requests ≤ limits.open_requests = s.few in omega arith;
    places = places_after limits s.places;
    on_map = rw (c.same_handles, h.left.moves.same_rules) s.on_map;
    topmost = All-permutation IsTopmost _ _ (IsPermutation-sym _ _ h.left.moves.same_packets) (All-tail IsTopmost h.answer.packet h.left.others (All-permutation IsTopmost _ _ h.left.is_in s.topmost));
    spots = spots_after s.spots;
    in_state = in_state_after s.in_state;
    none_put_by = refl;
    rising = rw c.untaken (inserted_rises (answer_for c.request done) t.untaken.items (others_untaken s.apart) s.rising);
    given = given_after distinct s.numbers.rising s.given;
    apart = apart_after s.apart;
    chained = chained_after s.chained;
    numbered = AreNumbered-ended t t' done c old.state.requests k s.numbered;
    counted = subst (λ hs. AreCounted hs t'.requests t'.open_counts) (sym c.same_handles) (AreCounted-ended t t' done c s.chained s.counted);
  }

-- ONE AFTER ANOTHER

SamePlaces-trans : (a b c : Tables) → SamePlaces a b → SamePlaces b c → SamePlaces a c
SamePlaces-trans a b c p q = record {
  labels = (q.labels.0 ∙ p.labels.0, q.labels.1 ∙ p.labels.1, q.labels.2 ∙ p.labels.2);
  answered = (q.answered.0 ∙ p.answered.0, q.answered.1 ∙ p.answered.1, q.answered.2 ∙ p.answered.2);
  untaken = q.untaken ∙ p.untaken;
  handles = q.handles ∙ p.handles;
  requests = q.requests ∙ p.requests;
}

-- none yet
pub gathers_none : (below : DeviceView) (tables : Tables) → tables.answered.items ≡ [] → Gathers below tables below tables
gathers_none below tables none = record {
  starts = [];
  only_starts = All-nil IsStart;
  rising = rw none tt;
  same_rules = refl;
  same_rooms = λ spot. refl;
  run = rw none (IsSame-refl below.state);
  adapter = refl;
  untaken = rw none (IsPermutation-refl tables.untaken.items);
  holders = λ slot. rw none (sym (unless_none (option_map holder_of (get tables.requests slot))));
  same_labels = refl;
  same_handles = refl;
  same_next_handle = refl;
  same_next_request = refl;
  same_state = refl;
  places = record { labels = (refl, refl, refl); answered = (refl, refl, refl); untaken = refl; handles = refl; requests = refl };
  places_below = refl;
  quiet = λ still. (refl, still);
}
  where
    unless_none : (slot : Option Holder) → unless_answered [] slot ≡ slot
    unless_none None = refl
    unless_none (Some holder) = refl

all_left : {X : Type 0} (P : X → Type 0) (xs ys : List X) → All P (xs ++ ys) → All P xs
all_left P [] ys h = All-nil P
all_left P (x ∷ xs) ys h = All-cons P x xs (All-head P x (xs ++ ys) h) (all_left P xs ys (All-tail P x (xs ++ ys) h))

module _ {w : Bool} (below mid new : DeviceView) (first t t' : Tables) (g : Gathers below first mid t) (e : TakesEnded mid t new t') (k : AreHeld w t.requests mid.state.requests) where
  -- its slot alone loses its holder
  one_gone : (slot : ℕ) → option_map holder_of (get t'.requests slot) ≡ unless_answered (answer_for e.closes.request e.done ∷ []) (option_map holder_of (get t.requests slot))
  one_gone slot = by_test (nat_eq slot e.closes.slot) refl
    where
      its_own : slot ≡ e.closes.slot → option_map holder_of (get t'.requests slot) ≡ unless_answered (answer_for e.closes.request e.done ∷ []) (option_map holder_of (get t.requests slot))
      its_own same =
          let gone : get t'.requests slot ≡ None = ap (λ s. get t'.requests s) same ∙ e.closes.leaves.changed in
          let there : get t.requests slot ≡ Some e.closes.request = ap (λ s. get t.requests s) same ∙ e.closes.there in
          let test : (e.done.number == e.closes.request.number) ≡ true = eq-eqb e.done.number e.closes.request.number (sym e.closes.same_number) in
          let taken : unless_answered (answer_for e.closes.request e.done ∷ []) (Some (holder_of e.closes.request)) ≡ None = rw test refl in
          ap (λ s. option_map holder_of s) gone ∙ sym (ap (λ s. unless_answered (answer_for e.closes.request e.done ∷ []) (option_map holder_of s)) there ∙ taken)

      by_slot : slot ≢ e.closes.slot → (x : Option OpenRequest) → get t.requests slot ≡ x → option_map holder_of x ≡ unless_answered (answer_for e.closes.request e.done ∷ []) (option_map holder_of x)
      by_slot other None there = refl
      by_slot other (Some r) there =
          let apart : r.number ≢ e.done.number = λ same. other (k.one_slot slot e.closes.slot r e.closes.request there e.closes.there (same ∙ sym e.closes.same_number)) in
          let test : (e.done.number == r.number) ≡ false = grind (arith, nat_tests) in
          rw test refl

      by_test : (b : Bool) → nat_eq slot e.closes.slot ≡ b → option_map holder_of (get t'.requests slot) ≡ unless_answered (answer_for e.closes.request e.done ∷ []) (option_map holder_of (get t.requests slot))
      by_test true test = its_own (eqb-true slot e.closes.slot test)
      by_test false test =
          let other : slot ≢ e.closes.slot = grind (arith, nat_tests) in
          ap (λ s. option_map holder_of s) (e.closes.leaves.others slot other) ∙ by_slot other (get t.requests slot) refl

  -- its request is none of those with a deferred answer
  others_put_by : AreApart t.requests t.untaken.items → All (HasOtherNumber (answer_for e.closes.request e.done).number) t.answered.items
  others_put_by apart =
      let untaken : All (HasOtherNumber (answer_for e.closes.request e.done).number) t.untaken.items =
      λ i d low same. apart e.closes.slot e.closes.request e.closes.there i d low (same ∙ sym e.closes.same_number) in
      all_left (HasOtherNumber (answer_for e.closes.request e.done).number) t.answered.items first.untaken.items
      (All-permutation (HasOtherNumber (answer_for e.closes.request e.done).number) _ _ g.untaken untaken)

  run_more : HavePlaces below.state → IsNone below.state.owed → Run below.rules below.state (map as_label (g.starts ++ e.starts) ++ map as_answer t'.answered.items) new.state
  run_more places free =
      let P : Rules → Type 0 = λ r. AnswersWith r mid.state e.done.number e.done.status e.done.information (answer_for e.closes.request e.done).bytes e.answered in
      let Q : Rules → Type 0 = λ r. Run r e.answered (map as_label e.starts) new.state in
      let R : List Answer → Type 0 = λ xs. Run below.rules below.state (map as_label (g.starts ++ e.starts) ++ map as_answer xs) new.state in
      subst R (sym e.closes.answered)
      (Run-collected below.rules g.starts e.starts t.answered.items (answer_for e.closes.request e.done) below.state mid.state e.answered new.state free places g.only_starts e.only_starts g.run
      (subst P g.same_rules e.answers) (subst Q g.same_rules e.run))

  untaken_more : IsPermutation t'.untaken.items (t'.answered.items ++ first.untaken.items)
  untaken_more =
      let a : Answer = answer_for e.closes.request e.done in
      let one : IsPermutation (inserted a t.untaken.items) (a ∷ (t.answered.items ++ first.untaken.items)) =
      IsPermutation-trans _ _ _ (inserted_is a t.untaken.items) (IsPermutation-cons a _ _ g.untaken) in
      let two : IsPermutation ((a ∷ t.answered.items) ++ first.untaken.items) (inserted a t.answered.items ++ first.untaken.items) =
      IsPermutation-append_left first.untaken.items _ _ (IsPermutation-sym _ _ (inserted_is a t.answered.items)) in
      let P : List Answer → List Answer → Type 0 = λ xs ys. IsPermutation xs (ys ++ first.untaken.items) in
      subst (λ xs. P xs t'.answered.items) (sym e.closes.untaken) (subst (λ ys. P (inserted a t.untaken.items) ys) (sym e.closes.answered) (IsPermutation-trans _ _ _ one two))

  pub gathers_more : AreApart t.requests t.untaken.items → HavePlaces below.state → IsNone below.state.owed → Gathers below first new t'
  gathers_more apart places free = record {
    starts = g.starts ++ e.starts;
    only_starts = All-append IsStart g.starts e.starts g.only_starts e.only_starts;
    rising = rw e.closes.answered (inserted_rises (answer_for e.closes.request e.done) t.answered.items (others_put_by apart) g.rising);
    same_rules = e.same_rules ∙ g.same_rules;
    same_rooms = λ spot. e.same_rooms spot ∙ g.same_rooms spot;
    run = run_more places free;
    adapter = moves_joined below.adapter g.starts mid.adapter e.starts new.adapter g.adapter e.adapter;
    untaken = untaken_more;
    holders = λ slot.
        one_gone slot
        ∙ ap (unless_answered (answer_for e.closes.request e.done ∷ [])) (g.holders slot)
        ∙ sym (unless_one_more (answer_for e.closes.request e.done) t.answered.items t'.answered.items (option_map holder_of (get first.requests slot)) (subst (λ xs. IsPermutation xs (answer_for e.closes.request e.done ∷ t.answered.items)) (sym e.closes.answered) (inserted_is (answer_for e.closes.request e.done) t.answered.items)));
    same_labels = e.closes.same_labels ∙ g.same_labels;
    same_handles = e.closes.same_handles ∙ g.same_handles;
    same_next_handle = e.closes.same_next_handle ∙ g.same_next_handle;
    same_next_request = e.closes.same_next_request ∙ g.same_next_request;
    same_state = e.closes.same_state ∙ g.same_state;
    places = SamePlaces-trans first t t' g.places e.closes.places;
    places_below = e.places_below ∙ g.places_below;
    quiet = λ none. (ap (λ xs. xs ++ e.starts) (g.quiet none).0 ∙ (e.quiet (g.quiet none).1).0, (e.quiet (g.quiet none).1).1);
  }

-- WHAT IS TOLD OF IT

-- nothing is open below where nothing is in the table
none_open : {w : Bool} (requests : Slab OpenRequest) (below : List OpenBelow) → AreHeld w requests below → slab_len requests ≡ 0 → below ≡ []
none_open requests below h none = no_length below (sym h.counted ∙ none)

none_held : {w : Bool} (requests : Slab OpenRequest) (below : List OpenBelow) → AreHeld w requests below → below ≡ [] → slab_len requests ≡ 0
none_held requests below h none = h.counted ∙ ap length none

-- a removal ends just where nothing is open
pub removal_of : {w : Bool} (mid new : DeviceView) (t t' t'' : Tables) → new ≡ unlabelled mid → t' ≡ record t { labels = t'.labels; answered = t'.answered } → (e : EndsRemoval t' t'') → AreHeld w t.requests mid.state.requests
    → EndsIf e.ends t.state new.state t''.state
removal_of mid new t t' t'' taken kept e held =
    let state_is : t'.state ≡ t.state = ap (λ (x : Tables). x.state) kept in
    let len : slab_len t'.requests ≡ slab_len t.requests = ap (λ (x : Tables). slab_len x.requests) kept in
    let requests : new.state.requests ≡ mid.state.requests = ap (λ (v : DeviceView). v.state.requests) taken in
    record {
      ended = λ yes. (sym state_is ∙ (e.ended yes).0, requests ∙ none_open t.requests mid.state.requests held (sym len ∙ (e.ended yes).1), (e.ended yes).2);
      not_ended = λ no. (
        (e.not_ended no).0 ∙ state_is,
        λ removing none. (e.not_ended no).1 (state_is ∙ removing) (len ∙ none_held t.requests mid.state.requests held (sym requests ∙ none)),
      );
    }

-- then the device's labels are told, the answers, and the end of a removal
module _ (below mid new : DeviceView) (first t t' t'' : Tables) (g : Gathers below first mid t) (taken : new ≡ unlabelled mid) (kept : t' ≡ record t { labels = t'.labels; answered = t'.answered })
    (e : EndsRemoval t' t'') where
  requests_are : t''.requests ≡ t.requests
  requests_are = ap (λ (x : Tables). x.requests) e.after ∙ ap (λ (x : Tables). x.requests) kept

  pub collects : {w : Bool} → Settled mid.rules mid.state → AreHeld w t.requests mid.state.requests
      → SameQueue t.labels t'.labels → SameQueue t.answered t'.answered
      → t'.labels.items ≡ (t.labels.items ++ map as_label mid.adapter.labels) ++ map as_answer t.answered.items → Collects below first new t''
  collects settled held label_places answer_places labels = record {
    starts = g.starts;
    answers = t.answered.items;
    ends = e.ends;
    only_starts = g.only_starts;
    rising = g.rising;
    same_rules = ap (λ (v : DeviceView). v.rules) taken ∙ g.same_rules;
    same_rooms = subst (λ (v : DeviceView). SameRooms below.rooms v.rooms) (sym taken) g.same_rooms;
    run = subst (λ s. Run below.rules below.state (map as_label g.starts ++ map as_answer t.answered.items) s) (sym (ap (λ (v : DeviceView). v.state) taken)) g.run;
    adapter = record { first = below.adapter; before = refl; moved = mid.adapter; moves = g.adapter; taken = ap (λ (v : DeviceView). v.adapter) taken };
    labels = e.tells ∙ ap (λ before. before ++ end_labels e.ends) (labels
        ∙ ap (λ q. (q.items ++ map as_label mid.adapter.labels) ++ map as_answer t.answered.items) g.same_labels
        ∙ ap (λ ls. (first.labels.items ++ map as_label ls) ++ map as_answer t.answered.items) (labels_moved below.adapter g.starts mid.adapter g.adapter));
    untaken = subst (λ x. IsPermutation x.items (t.answered.items ++ first.untaken.items)) (sym (ap (λ (x : Tables). x.untaken) e.after ∙ ap (λ (x : Tables). x.untaken) kept)) g.untaken;
    holders = λ slot. ap (λ x. option_map holder_of (get x slot)) requests_are ∙ g.holders slot;
    same_handles = ap (λ (x : Tables). x.handles) e.after ∙ ap (λ (x : Tables). x.handles) kept ∙ g.same_handles;
    same_next_handle = ap (λ (x : Tables). x.next_handle) e.after ∙ ap (λ (x : Tables). x.next_handle) kept ∙ g.same_next_handle;
    same_next_request = ap (λ (x : Tables). x.next_request) e.after ∙ ap (λ (x : Tables). x.next_request) kept ∙ g.same_next_request;
    places =
        SamePlaces-trans first t t'' g.places (record {
          labels = (e.label_places.0 ∙ label_places.0, e.label_places.1 ∙ label_places.1, e.label_places.2 ∙ label_places.2);
          answered = (ap (λ (x : Tables). x.answered.places) e.after ∙ answer_places.0, ap (λ (x : Tables). x.answered.keeps) e.after ∙ answer_places.1, ap (λ (x : Tables). x.answered.keeps_bytes) e.after ∙ answer_places.2);
          untaken = ap (λ (x : Tables). deque_capacity x.untaken) e.after ∙ ap (λ (x : Tables). deque_capacity x.untaken) kept;
          handles = ap (λ (x : Tables). x.handles.capacity) e.after ∙ ap (λ (x : Tables). x.handles.capacity) kept;
          requests = ap (λ (x : Tables). x.requests.capacity) e.after ∙ ap (λ (x : Tables). x.requests.capacity) kept;
        });
    removal = subst (λ p. EndsIf e.ends p new.state t''.state) g.same_state (removal_of mid new t t' t'' taken kept e held);
    places_below = ap (λ (v : DeviceView). v.places) taken ∙ g.places_below;
    settled = subst (λ (v : DeviceView). Settled v.rules v.state) (sym taken) settled;
    quiet = λ none. (g.quiet none).0;
  }

-- the state after it is in order
ended_in_state : (ends : Bool) (p p' : PnpState) (s : State) → EndsIf ends p s p' → IsInState p s → IsInState p' s
ended_in_state true p p' s h k =
    let was : IsInState Removing s = subst (λ x. IsInState x s) (h.ended refl).0 k in
    subst (λ x. IsInState x s) (sym (h.ended refl).2) (was.0, was.1, (h.ended refl).1)
ended_in_state false p p' s h k = subst (λ x. IsInState x s) (sym (h.not_ended refl).0) k

-- only labels, deferred answers and the state differ
pub told_sound : (limits : Limits) (mid new : DeviceView) (t t' t'' : Tables) → new ≡ unlabelled mid → IsSoundWith t.answered.items limits mid t
    → t' ≡ record t { labels = t'.labels; answered = t'.answered } → t'.answered.items ≡ [] → (e : EndsRemoval t' t'') → EndsIf e.ends t.state mid.state t''.state
    → SameQueue t.labels t'.labels → SameQueue t.answered t'.answered → IsSound limits new t''
told_sound limits mid new t t' t'' taken s kept none e removal label_places answer_places =
    subst (λ v. IsSound limits v t'') (sym taken) (subst (IsSound limits (unlabelled mid)) (sym (e.after ∙ ap (λ (x : Tables). record x { state = t''.state; labels = t''.labels }) kept)) (record {
      fits = FitsBelow-same limits mid (unlabelled mid) refl refl s.fits;
      numbers = record { requests = s.numbers.requests; handles = s.numbers.handles; rising = s.numbers.rising; submitted = s.numbers.submitted };
      held = s.held;
      few = s.few;
      places = record {
        labels = e.label_places.0 ∙ label_places.0 ∙ s.places.labels;
        answered = subst (λ n. 64 ≤ n) (sym answer_places.0) s.places.answered;
        alike = answer_places.1 ∙ s.places.alike ∙ sym (e.label_places.1 ∙ label_places.1);
        label_bytes = e.label_places.2 ∙ label_places.2 ∙ s.places.label_bytes;
        answer_bytes = answer_places.2 ∙ s.places.answer_bytes;
        untaken = s.places.untaken;
        handles = s.places.handles;
        requests = s.places.requests;
      };
      on_map = s.on_map;
      topmost = s.topmost;
      spots = s.spots;
      in_state = ended_in_state e.ends t.state t''.state mid.state removal s.in_state;
      none_put_by = none;
      rising = s.rising;
      given = s.given;
      apart = s.apart;
      chained = s.chained;
      numbered = s.numbered;
      counted = s.counted;
    }))

-- the bounds of the tables' places
pub few_open : (limits : Limits) (below : DeviceView) (tables : Tables) → IsSound limits below tables → length tables.answered.items + slab_len tables.requests ≤ 64
few_open limits below tables s =
    let none : length tables.answered.items ≡ 0 = ap length s.none_put_by in
    let few : slab_len tables.requests ≤ limits.open_requests = s.few in
    let short : limits.open_requests ≤ 64 = s.fits.some_open.1 in
    omega arith
