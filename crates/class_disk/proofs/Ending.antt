-- A packet below that has ended is taken: what the class driver notes of its part are the marks that it had there.
use Rattle.std.proofs.Common.{◌≡◌, ◌≢◌, ◌<◌, ◌≤◌, ◌⊎◌, inl, inr, ℕ, zero, suc, ◌+◌, ◌-◌, not, Bool, true, false, List, [], ◌∷◌, None, refl, sym, ◌∙◌, ap, subst, arith, map, length, get_or, replicate}
use Rattle.std.specs.Prelude.{All, Contains, IsTrue, if◌then◌else◌}
use Rattle.class_disk.proofs.Common.{list_all, length-replicate, get_or-replicate, IsPermutation-sym, All-permutation, Contains-permutation, All-cons, All-head, All-tail, All-weaker, All-map, All-replicate, All-contains, NtStatus, Success, DeviceBusy, Extent, splice, length-splice, DeviceLabel, Start, Act, Fault, Return, Class, Climb, Payload, ClientRequest, Request, Rules, place_count, as_client, Mark, Untouched, Out, Done, Failed, Back, OpenRequest, Piece, State, IsSame, HasPlaces, HavePlaces, IsEarned, IsLike, HasAlike, IsBusyBy, IsCounted, AreCounted, Opens, new_request, Starts, Returns, LeavesMarks, is_untouched, sent, given_back, new_piece, status_of_completion, IsStart, HasEnded, HasCause, Answers, is_done, Cancels, as_cancelled, held_back, Run, as_label, DeviceView, Packet, payload_bytes, HandsUp, Submits, Finishes, CancelsIfOpen, DrainsAll, IsBeside, NoneToCancel, AwaitsRestartIfEnded, sectors_moved, cut, out_ends_not, untouched_ends_not, IsSame-sym, All-changed, ComesBackWhole, comes_back_whole, get_or-splice_inside, taken_in, Outcome, Way, Returned, Unsent, Kept, shown_mark, class_rules, IsPort, busy_left, places_of, marks_left, note_by, note, payload_in, EndsAs, EndsBack}
use Rattle.srb.specs.declared.Class.TheVariants.{Good, Busy, Bad}
use Rattle.class_disk.specs.declared.parts.Part.{Part}
use Rattle.class_disk.specs.declared.parts.Ended.{Ended}
use Rattle.class_disk.specs.declared.parts.Progress.TheVariants.{Ended as PartEnded}
use Rattle.class_disk.specs.declared.parts.Outcome.TheVariants.{Good as IsGood, Failed as IsBad, Busy as IsBusy, Withdrawn}
use Rattle.class_disk.specs.inside.Invariant.{IsSound, WasSent, NeverSent, EndedBy, IsUntouched, IsIfEnded, EndedAre, EndsUnsent}
use Rattle.class_disk.proofs.Resting.{Is, WaitsBelow, at_rest, untouched_all}
use Rattle.class_disk.proofs.Acting.{ended_still}
use Rattle.class_disk.proofs.CoupledSteps.{shown_done, shown_back}

-- MARKS THAT ARE ALL ONE

all_one : (mark : Mark) (marks : List Mark) → All (Is mark) marks → marks ≡ replicate (length marks) mark
all_one mark [] all = refl
all_one mark (m ∷ marks) all =
    let e : m ≡ mark = All-head (Is mark) m marks all in
    let more : marks ≡ replicate (length marks) mark = all_one mark marks (All-tail (Is mark) m marks all) in
    rw e (ap (λ ms. mark ∷ ms) more)

-- this many of them
so_many : (mark : Mark) (marks : List Mark) (count : ℕ) → length marks ≡ count → All (Is mark) marks → marks ≡ replicate count mark
so_many mark marks count long all = subst (λ n. marks ≡ replicate n mark) long (all_one mark marks all)

shown_failed : (again : ℕ) (status : NtStatus) → shown_mark again (Failed status) ≡ Failed status
shown_failed zero status = refl
shown_failed (suc n) status = refl

shown_many : (again count : ℕ) (mark : Mark) → map (shown_mark again) (replicate count mark) ≡ replicate count (shown_mark again mark)
shown_many again zero mark = refl
shown_many again (suc n) mark = ap (λ ms. shown_mark again mark ∷ ms) (shown_many again n mark)

same_many : (count : ℕ) (a b : Mark) → a ≡ b → replicate count a ≡ replicate count b
same_many count a b e = rw e refl

-- WHAT IS HANDED UP

done_all : (marks : List Mark) → All (λ m. IsTrue (is_done m)) marks → IsTrue (list_all is_done marks)
done_all [] all = refl
done_all (m ∷ marks) all = let e : is_done m ≡ true = All-head (λ x. IsTrue (is_done x)) m marks all in rw e (done_all marks (All-tail (λ x. IsTrue (is_done x)) m marks all))

none_of_done : (busy : ℕ) (m : Mark) → IsTrue (is_done m) → IsBusyBy busy m → busy ≡ 0
none_of_done busy (Done sector) done h = h
none_of_done busy Untouched done h = absurd (cc (done))
none_of_done busy Out done h = absurd (cc (done))
none_of_done busy (Failed status) done h = absurd (cc (done))
none_of_done busy Back done h = absurd (cc (done))

failed_cause : (rules : Rules) (s : State) (o : OpenRequest) (failure status : NtStatus) (marks : List Mark) → 0 < length marks → All (Is (Failed failure)) marks → HasCause rules s o marks status → status ≡ failure
failed_cause rules s o failure status [] some all h = absurd (omega arith)
failed_cause rules s o failure status (m ∷ marks) some all h =
    let e : m ≡ Failed failure = All-head (Is (Failed failure)) m marks all in
    subst (λ x. HasCause rules s o (x ∷ marks) status) e h

module _ (takes : Bool) (v : DeviceView) (climb : Climb) (spot : ℕ) (v' : DeviceView) (h : HandsUp takes v climb spot v') (port : IsPort v.rules) (sound : IsSound v.state) (counted : AreCounted v.rules v.state) (places : HavePlaces v.state) where
  abbrev pub ended_one : OpenRequest
  ended_one = h.answer.answers.request

  open_there : Contains v.state.requests ended_one
  open_there = Contains-permutation _ _ ended_one (IsPermutation-sym _ _ h.answer.answers.is_open) (0, omega arith, refl)

  some_mark : 0 < length ended_one.marks
  some_mark = All-contains HasPlaces v.state.requests ended_one places open_there

  alike : HasAlike ended_one
  alike = All-contains HasAlike v.state.requests ended_one sound.whole.alike open_there

  count : IsCounted v.rules ended_one
  count = All-contains (IsCounted v.rules) v.state.requests ended_one counted open_there

  first : Mark
  first = get_or ended_one.marks 0 Untouched

  first_busy : IsBusyBy ended_one.busy_returns (get_or ended_one.marks 0 Untouched)
  first_busy = count.busy 0 Untouched some_mark

  first_earned : IsEarned ended_one (get_or ended_one.marks 0 Untouched)
  first_earned = All-contains (λ o. All (IsEarned o) o.marks) v.state.requests ended_one sound.earned open_there 0 Untouched some_mark

  one_piece : IsTrue v.rules.one_piece
  one_piece = port.one_piece

  -- how it ended, after a return
  pub data Ends : Type 0 where
    EndsGood : h.answer.status ≡ Success → ended_one.busy_returns ≡ 0 → Ends
    EndsBad : All (Is (Failed h.answer.status)) ended_one.marks → h.answer.status ≢ Success → h.answer.status ≢ DeviceBusy → ended_one.busy_returns ≡ 0 → Ends
    EndsBusy : All (Is Back) ended_one.marks → h.answer.status ≡ DeviceBusy → ended_one.busy_returns ≡ 1 → Ends

  ends_by : WasSent ended_one → (like : Mark) → All (IsLike like) ended_one.marks → Ends
  ends_by started Untouched all = let e : list_all is_untouched ended_one.marks ≡ true = untouched_all ended_one.marks all in absurd (cc (e, started))
  ends_by started Out all = absurd (out_ends_not v.rules v.state ended_one (subst (HasEnded v.rules v.state ended_one) (all 0 Untouched some_mark) (h.answer.answers.ended 0 Untouched some_mark)))
  ends_by started (Done sector) all = EndsGood (h.answer.answers.success.1 (done_all ended_one.marks all)) (none_of_done _ _ (all 0 Untouched some_mark) first_busy)
  ends_by started (Failed failure) all =
      let is : h.answer.status ≡ failure = failed_cause v.rules v.state ended_one failure h.answer.status ended_one.marks some_mark all h.answer.answers.cause in
      let first_is : get_or ended_one.marks 0 Untouched ≡ Failed failure = all 0 Untouched some_mark in
      let fails : (failure ≢ Success) × (failure ≢ DeviceBusy) = subst (IsEarned ended_one) first_is first_earned in
      EndsBad (subst (λ x. All (Is (Failed x)) ended_one.marks) (sym is) all) (λ e. fails.0 (sym is ∙ e)) (λ e. fails.1 (sym is ∙ e)) (subst (IsBusyBy ended_one.busy_returns) first_is first_busy)
  ends_by started Back all = EndsBusy all (h.brought.busy one_piece all) (subst (IsBusyBy ended_one.busy_returns) (all 0 Untouched some_mark) first_busy)

  pub ends : EndedAre WasSent v.rules v.state → Ends
  ends sent = ends_by (All-contains (IsIfEnded WasSent v.rules v.state) v.state.requests ended_one sent open_there h.answer.answers.ended) alike.0 alike.1

  -- its places, as many as its part has
  long : (part : Part) → place_count v.rules ended_one.request ≡ places_of (class_rules v.rules) part → length ended_one.marks ≡ places_of (class_rules v.rules) part
  long part asks = count.places ∙ asks

  module _ (part : Part) (asks : place_count v.rules ended_one.request ≡ places_of (class_rules v.rules) part) (again : ℕ) where
    moved_by : h.answer.status ≡ Success → map (shown_mark again) ended_one.marks ≡ marks_left (class_rules v.rules) part h.answer.payload IsGood
    moved_by good =
        let same : place_count v.rules (as_client v.rules h.answer.request []) ≡ places_of (class_rules v.rules) part = sym (ap (place_count v.rules) h.answer.is_request) ∙ asks in
        let are : ended_one.marks ≡ map Done (sectors_moved v.rules h.answer.request h.answer.payload) = h.brought.moved good in
        ap (map (shown_mark again)) are ∙ shown_done again (sectors_moved v.rules h.answer.request h.answer.payload)
        ∙ ap (λ n. map Done (cut n v.rules.sector_size (payload_bytes h.answer.payload))) same

    failed_by : All (Is (Failed h.answer.status)) ended_one.marks → map (shown_mark again) ended_one.marks ≡ marks_left (class_rules v.rules) part h.answer.payload (IsBad h.answer.status)
    failed_by all =
        ap (map (shown_mark again)) (so_many (Failed h.answer.status) ended_one.marks _ (long part asks) all) ∙ shown_many again _ _ ∙ same_many _ _ _ (shown_failed again h.answer.status)

    back_by : (told : NtStatus) → All (Is Back) ended_one.marks → map (shown_mark again) ended_one.marks ≡ marks_left (class_rules v.rules) part h.answer.payload (IsBusy told)
    back_by told all =
        ap (map (shown_mark again)) (so_many Back ended_one.marks _ (long part asks) all) ∙ shown_many again _ _ ∙ same_many _ _ _ (shown_back again)

    -- THE MARKS OF A PART THAT CAME BACK, and its busy returns
    left_by : Ends → (outcome : Outcome) → EndsBack h.answer.status outcome → (map (shown_mark again) ended_one.marks ≡ marks_left (class_rules v.rules) part h.answer.payload outcome) × (ended_one.busy_returns ≡ busy_left outcome)
    left_by (EndsGood good none) IsGood is = (moved_by good, none)
    left_by (EndsGood good none) (IsBad failure) is = absurd (is.1 good)
    left_by (EndsGood good none) (IsBusy told) is = absurd (cc (sym good ∙ is))
    left_by (EndsGood good none) (Withdrawn told) is = absurd is
    left_by (EndsBad all bad idle none) IsGood is = absurd (bad is)
    left_by (EndsBad all bad idle none) (IsBad failure) is = (subst (λ x. map (shown_mark again) ended_one.marks ≡ marks_left (class_rules v.rules) part h.answer.payload (IsBad x)) (sym is.0) (failed_by all), none)
    left_by (EndsBad all bad idle none) (IsBusy told) is = absurd (idle is)
    left_by (EndsBad all bad idle none) (Withdrawn told) is = absurd is
    left_by (EndsBusy all busy one) IsGood is = absurd (cc (sym busy ∙ is))
    left_by (EndsBusy all busy one) (IsBad failure) is = absurd (is.2 busy)
    left_by (EndsBusy all busy one) (IsBusy told) is = (back_by told all, one)
    left_by (EndsBusy all busy one) (Withdrawn told) is = absurd is

    -- the marks of a part that was taken, and its busy returns: one that never went, or not again, has no other
    pub marks_taken : (way : Way) → EndedAre (EndedBy way) v.rules v.state → again ≡ part.restarts → (outcome : Outcome) → EndsAs way h.answer.status outcome
        → (map (shown_mark again) ended_one.marks ≡ marks_left (class_rules v.rules) part h.answer.payload outcome) × (ended_one.busy_returns ≡ busy_left outcome)
    marks_taken Returned sent same outcome is = left_by (ends sent) outcome is
    marks_taken Unsent never same IsGood is = absurd is
    marks_taken Unsent never same (IsBad failure) is = absurd is
    marks_taken Unsent never same (IsBusy told) is = absurd is
    marks_taken Unsent never same (Withdrawn told) is =
        let all : All (Is Untouched) ended_one.marks = All-contains (IsIfEnded NeverSent v.rules v.state) v.state.requests ended_one never open_there h.answer.answers.ended in (
          ap (map (shown_mark again)) (so_many Untouched ended_one.marks _ (long part asks) all) ∙ ap (λ n. map (shown_mark n) (replicate (places_of (class_rules v.rules) part) Untouched)) same,
          subst (IsBusyBy ended_one.busy_returns) (all 0 Untouched some_mark) first_busy,
        )

  -- THE NOTE OF A PART THAT WAS TAKEN: what the coupling has in its place
  module _ (part : Part) (ended : Ended) (is_ended : part.progress ≡ PartEnded ended) (payload : (payload_in ended.packet) ≡ h.answer.payload) (asks : place_count v.rules ended_one.request ≡ places_of (class_rules v.rules) part) where
    note_is : (map (shown_mark part.restarts) ended_one.marks ≡ marks_left (class_rules v.rules) part h.answer.payload ended.outcome) × (ended_one.busy_returns ≡ busy_left ended.outcome)
        → Kept (map (shown_mark part.restarts) ended_one.marks) (part.restarts + ended_one.busy_returns) ≡ note (class_rules v.rules) part
    note_is (marks, busy) =
        ap (λ ms. Kept ms (part.restarts + ended_one.busy_returns)) marks
        ∙ ap (λ n. Kept (marks_left (class_rules v.rules) part h.answer.payload ended.outcome) (part.restarts + n)) busy
        ∙ ap (λ (x : Payload). Kept (marks_left (class_rules v.rules) part x ended.outcome) (part.restarts + busy_left ended.outcome)) (sym payload)
        ∙ sym (ap (note_by (class_rules v.rules) part) is_ended)

    pub noted_taken : (way : Way) → EndedAre (EndedBy way) v.rules v.state → EndsAs way h.answer.status ended.outcome
        → Kept (map (shown_mark part.restarts) ended_one.marks) (part.restarts + ended_one.busy_returns) ≡ note (class_rules v.rules) part
    noted_taken way were is = note_is (marks_taken part asks part.restarts way were refl ended.outcome is)

  -- one that came back busy shows as one that waits to be sent again
  busy_by : (again : ℕ) → h.answer.status ≡ DeviceBusy → Ends
      → (map (shown_mark again) ended_one.marks ≡ map (shown_mark (suc again)) (replicate (place_count v.rules ended_one.request) Untouched)) × (ended_one.busy_returns ≡ 1)
  busy_by again is (EndsGood good none) = absurd (cc (sym is ∙ good))
  busy_by again is (EndsBad all bad idle none) = absurd (idle is)
  busy_by again is (EndsBusy all busy one) = (
    ap (map (shown_mark again)) (so_many Back ended_one.marks _ count.places all) ∙ shown_many again _ Back ∙ same_many _ _ _ (shown_back again)
        ∙ sym (shown_many (suc again) (place_count v.rules ended_one.request) Untouched),
    one,
  )

  pub waits_again : EndedAre WasSent v.rules v.state → (again : ℕ) → h.answer.status ≡ DeviceBusy
      → (map (shown_mark again) ended_one.marks ≡ map (shown_mark (suc again)) (replicate (place_count v.rules ended_one.request) Untouched)) × (ended_one.busy_returns ≡ 1)
  waits_again sent again is = busy_by again is (ends sent)

-- WHAT HAS ENDED AND IS NOT TAKEN YET, step by step

module _ (Is' : OpenRequest → Type 0) (rules : Rules) where
  other_state : (s s' : State) (o : OpenRequest) → s.removing ≡ s'.removing → IsIfEnded Is' rules s o → IsIfEnded Is' rules s' o
  other_state s s' o same h ended = h (All-weaker (HasEnded rules s' o) (HasEnded rules s o) (λ m. ended_still rules s s' o m same) o.marks ended)

  pub ended_same : (s t : State) → IsSame s t → EndedAre Is' rules s → EndedAre Is' rules t
  ended_same s t same k =
      All-weaker (IsIfEnded Is' rules s) (IsIfEnded Is' rules t) (λ o. other_state s t o same.removing) t.requests (All-permutation (IsIfEnded Is' rules s) _ _ same.requests k)

  -- a request that is started has a place out
  sent_ends_not : (t : State) (o : OpenRequest) (places : Extent) → 0 < places.count → places.first + places.count ≤ length o.marks → (p : OpenRequest) → p.marks ≡ (sent places o).marks → All (HasEnded rules t p) p.marks → ⊥
  sent_ends_not t o places some inside p are ended =
      let outs : List Mark = replicate places.count Out in
      let n : length outs ≡ places.count = length-replicate places.count Out in
      let long : length (splice o.marks places.first outs) ≡ length o.marks = length-splice o.marks places.first outs (omega arith) in
      let is_out : get_or (splice o.marks places.first outs) places.first Untouched ≡ Out =
      get_or-splice_inside o.marks places.first outs places.first Untouched (omega arith) (omega arith) (omega arith) ∙ get_or-replicate places.count (places.first - places.first) Out Untouched (omega arith) in
      let all : All (HasEnded rules t p) (splice o.marks places.first outs) = subst (All (HasEnded rules t p)) are ended in
      out_ends_not rules t p (subst (HasEnded rules t p) is_out (all places.first Untouched (omega arith)))

  pub ended_start : (s : State) (number tag : ℕ) (block : List ℕ) (s' : State) → EndedAre Is' rules s → Starts rules s number tag block s' → EndedAre Is' rules s'
  ended_start s number tag block s' k h =
      let o : OpenRequest = h.owner in
      let others : All (IsIfEnded Is' rules s) h.others = All-tail (IsIfEnded Is' rules s) o h.others (All-permutation (IsIfEnded Is' rules s) _ _ h.is_open k) in
      let mid : State = record s { next_piece = s.next_piece + 1; requests = sent h.places o ∷ h.others; pieces = new_piece s tag o h.places ∷ s.pieces } in
      ended_same mid s' (IsSame-sym _ _ h.after)
      (All-cons (IsIfEnded Is' rules mid) (sent h.places o) h.others (λ ended. absurd (sent_ends_not mid o h.places h.sendable.some h.sendable.inside (sent h.places o) refl ended))
      (All-weaker (IsIfEnded Is' rules s) (IsIfEnded Is' rules mid) (λ x. other_state s mid x refl) h.others others))

  pub ended_starts : (starts : List DeviceLabel) (s s' : State) → All IsStart starts → EndedAre Is' rules s → Run rules s (map as_label starts) s' → EndedAre Is' rules s'
  ended_starts [] s s' only k run = ended_same s s' run k
  ended_starts (Start number tag block ∷ starts) s s' only k (mid, inl (none, h), run) = ended_starts starts mid s' (All-tail IsStart (Start number tag block) starts only) (ended_start s number tag block mid k h) run
  ended_starts (Start number tag block ∷ starts) s s' only k (mid, inr owing, run) = absurd owing
  ended_starts (Act number bytes ∷ starts) s s' only k run = absurd (All-head IsStart (Act number bytes) starts only)
  ended_starts (Fault number ∷ starts) s s' only k run = absurd (All-head IsStart (Fault number) starts only)
  ended_starts (Return number class ∷ starts) s s' only k run = absurd (All-head IsStart (Return number class) starts only)

  pub ended_answer : (s : State) (number : ℕ) (status : NtStatus) (bytes : List ℕ) (s' : State) → EndedAre Is' rules s → Answers rules s number status bytes s' → EndedAre Is' rules s'
  ended_answer s number status bytes s' k h =
      let mid : State = record s { requests = h.others } in
      ended_same mid s' (IsSame-sym _ _ h.after)
      (All-weaker (IsIfEnded Is' rules s) (IsIfEnded Is' rules mid) (λ x. other_state s mid x refl) h.others (All-tail (IsIfEnded Is' rules s) h.request h.others (All-permutation (IsIfEnded Is' rules s) _ _ h.is_open k)))

  -- a request that nothing refuses has not ended as it is opened
  pub ended_open : (s : State) (number : ℕ) (q : ClientRequest) (s' : State) → 0 < place_count rules q → EndedAre Is' rules s → Opens rules s number q s' → EndedAre Is' rules s'
  ended_open s number q s' some k h =
      let o : OpenRequest = new_request rules s number q in
      let mid : State = record s { next_request = number + 1; requests = o ∷ s.requests } in
      let long : length o.marks ≡ place_count rules q = length-replicate (place_count rules q) Untouched in
      let first : get_or o.marks 0 Untouched ≡ Untouched = get_or-replicate (place_count rules q) 0 Untouched Untouched some in
      ended_same mid s' (IsSame-sym _ _ h.after)
      (All-cons (IsIfEnded Is' rules mid) o s.requests
      (λ ended. absurd (untouched_ends_not rules mid o refl (taken_in rules s q h.not_refused).staying (subst (HasEnded rules mid o) first (ended 0 Untouched (omega arith)))))
      (All-weaker (IsIfEnded Is' rules s) (IsIfEnded Is' rules mid) (λ x. other_state s mid x refl) s.requests k))

-- a packet handed up, and a packet taken in
pub ended_handed : (Is' : OpenRequest → Type 0) (takes : Bool) (v : DeviceView) (climb : Climb) (spot : ℕ) (v' : DeviceView) → EndedAre Is' v.rules v.state → HandsUp takes v climb spot v' → EndedAre Is' v.rules v'.state
ended_handed Is' takes v climb spot v' k h =
    ended_starts Is' v.rules h.left.starts h.answer.answered v'.state h.left.only_starts (ended_answer Is' v.rules v.state h.answer.packet.number h.answer.status h.answer.bytes h.answer.answered k h.answer.answers) h.left.moves.run

pub ended_submitted : (Is' : OpenRequest → Type 0) (v : DeviceView) (packet : Packet) (request : Request) (payload : Payload) (v' : DeviceView) → 0 < place_count v.rules (as_client v.rules request []) → EndedAre Is' v.rules v.state
    → Submits v packet request payload v' → EndedAre Is' v.rules v'.state
ended_submitted Is' v packet request payload v' some k h =
    ended_starts Is' v.rules h.starts h.opened v'.state h.only_starts (ended_open Is' v.rules v.state packet.number _ h.opened some k h.opens) h.moves.run

-- BEHIND A RETURN

pub started_from : (marks : List Mark) → 0 < length marks → All (λ m. is_untouched m ≡ false) marks → IsTrue (not (list_all is_untouched marks))
started_from [] some all = absurd (omega arith)
started_from (m ∷ marks) some all = let e : is_untouched m ≡ false = All-head (λ x. is_untouched x ≡ false) m marks all in rw e refl

left_touched : (piece : Piece) (class : Class) (marks : List Mark) → LeavesMarks piece class marks → All (λ m. is_untouched m ≡ false) marks
left_touched piece Good marks h = rw h.2 (All-map (λ m. is_untouched m ≡ false) Done h.0 (λ k d low. refl))
left_touched piece Busy marks h = rw h.1 (All-replicate (λ m. is_untouched m ≡ false) piece.places.count Back refl)
left_touched piece (Bad completion) marks h = rw h.1 (All-replicate (λ m. is_untouched m ≡ false) piece.places.count (Failed (status_of_completion completion)) refl)

pub ended_return : (rules : Rules) → IsTrue rules.one_piece → (s : State) (number : ℕ) (class : Class) (s' : State)
    → IsSound s → All (AwaitsRestartIfEnded rules s) s.requests → Returns s number class s' → EndedAre WasSent rules s'
ended_return rules whole s number class s' sound unfinished h =
    let o : OpenRequest = h.owner in
    let w : ComesBackWhole o h.piece h.marks = comes_back_whole s number class s' sound.placed sound.whole h in
    let all : EndedAre WasSent rules s = All-weaker (AwaitsRestartIfEnded rules s) (IsIfEnded WasSent rules s)
    (λ x none ended. let awaits = none ended in absurd (cc (awaits.in_pieces, whole))) s.requests unfinished in
    let others : All (IsIfEnded WasSent rules s) h.others = All-tail (IsIfEnded WasSent rules s) o h.others (All-permutation (IsIfEnded WasSent rules s) _ _ h.is_open all) in
    let mid : State = record s { requests = given_back h.piece class h.marks o ∷ h.others; pieces = h.other_pieces } in
    let started : IsTrue (not (list_all is_untouched (splice o.marks h.piece.places.first h.marks))) =
    subst (λ ms. IsTrue (not (list_all is_untouched ms))) (sym w.all) (started_from h.marks w.some (left_touched h.piece class h.marks h.leaves)) in
    ended_same WasSent rules mid s' (IsSame-sym _ _ h.after)
    (All-cons (IsIfEnded WasSent rules mid) (given_back h.piece class h.marks o) h.others (λ _. started)
    (All-weaker (IsIfEnded WasSent rules s) (IsIfEnded WasSent rules mid) (λ x. other_state WasSent rules s mid x refl) h.others others))

-- a finish, from where nothing that has ended waits
pub ended_finish : (v : DeviceView) (tag : ℕ) (v' : DeviceView) → IsTrue v.rules.one_piece → IsSound v.state
    → All (AwaitsRestartIfEnded v.rules v.state) v.state.requests → Finishes v tag v' → EndedAre WasSent v.rules v'.state
ended_finish v tag v' whole sound unfinished h = by h.moves.run
  where
    by : Run v.rules v.state (map as_label (Return h.piece.number h.class ∷ h.starts)) v'.state → EndedAre WasSent v.rules v'.state
    by (mid, inl (none, step), run) =
        ended_starts WasSent v.rules h.starts mid v'.state h.only_starts
        (ended_return v.rules whole v.state h.piece.number h.class mid sound unfinished step) run
    by (mid, inr owing, run) = absurd owing

-- BEHIND A CANCELLATION OR A REMOVAL

-- where nothing that has ended waits, what ends with no step of its piece was never sent
pub ends_unsent : (rules : Rules) → rules.busy_limit ≡ 1 → IsTrue rules.one_piece → (s : State) → IsSound s → HavePlaces s
    → All (AwaitsRestartIfEnded rules s) s.requests → All (EndsUnsent rules) s.requests
ends_unsent rules one whole s sound places unfinished k d low t p are ended =
    by (at_rest rules one whole s (get_or s.requests k d) (unfinished k d low) (sound.earned k d low) (sound.whole.alike k d low))
  where
    by : WaitsBelow s (get_or s.requests k d) ⊎ All (Is Out) (get_or s.requests k d).marks → NeverSent p
    by (inl waits) = subst (All IsUntouched) (sym are) waits.marks
    by (inr out) =
        let some : 0 < length (get_or s.requests k d).marks = places k d low in
        let all : All (HasEnded rules t p) (get_or s.requests k d).marks = subst (All (HasEnded rules t p)) are ended in
        absurd (out_ends_not rules t p (subst (HasEnded rules t p) (out 0 Untouched some) (all 0 Untouched some)))

pub never_sent : (rules : Rules) (s : State) → All (EndsUnsent rules) s.requests → EndedAre NeverSent rules s
never_sent rules s all = All-weaker (EndsUnsent rules) (IsIfEnded NeverSent rules s) (λ o h. h s o refl) s.requests all

unsent_cancel : (rules : Rules) (s : State) (number : ℕ) (s' : State) → All (EndsUnsent rules) s.requests → Cancels s number s' → All (EndsUnsent rules) s'.requests
unsent_cancel rules s number s' all h =
    All-permutation (EndsUnsent rules) _ _ (IsPermutation-sym _ _ h.after.requests)
    (All-changed (EndsUnsent rules) s.requests h.request (as_cancelled h.request) h.others h.is_open all (λ x t p are. x t p are))

pub unsent_cancels : (v : DeviceView) (number : ℕ) (v' : DeviceView) → All (EndsUnsent v.rules) v.state.requests → CancelsIfOpen v number v' → All (EndsUnsent v.rules) v'.state.requests
unsent_cancels v number v' all h = by h.one_of
  where
    by : (Cancels v.state number v'.state × IsBeside v v') ⊎ (NoneToCancel v.state number × (v' ≡ v)) → All (EndsUnsent v.rules) v'.state.requests
    by (inl (cancels, beside)) = unsent_cancel v.rules v.state number v'.state all cancels
    by (inr (none, same)) = subst (λ (x : DeviceView). All (EndsUnsent v.rules) x.state.requests) (sym same) all

pub unsent_drains : (v v' : DeviceView) → v.rules.window ≡ None → All (EndsUnsent v.rules) v.state.requests → DrainsAll v v' → All (EndsUnsent v.rules) v'.state.requests
unsent_drains v v' no_window all h = All-permutation (EndsUnsent v.rules) _ _ (IsPermutation-sym _ _ h.drains.requests) (by v.state.paused)
  where
    by : (paused : Bool) → All (EndsUnsent v.rules) (if paused then v.state.requests else held_back v.rules.window v.state.requests)
    by true = all
    by false = subst (λ w. All (EndsUnsent v.rules) (held_back w v.state.requests)) (sym no_window) all
