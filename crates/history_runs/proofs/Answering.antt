-- An answer: the places that are left fail, or a flush acts, and the request ends.
use Rattle.std.proofs.Common.{◌≡◌, ◌≢◌, ◌<◌, ◌≤◌, ◌⊎◌, inl, inr, ℕ, zero, suc, ◌+◌, ◌*◌, ◌/◌, ◌==◌, ◌&&◌, true, false, List, [], ◌∷◌, Option, Some, None, refl, sym, ◌∙◌, ap, subst, arith, map, length, get_or, set, Bool}
use Rattle.std.specs.Prelude.{IsPermutation, IsTrue, ◌↔◌, All, Contains, slice_get, if◌then◌else◌}
use Rattle.std.specs.List.{list_all, concat}
use Rattle.std.proofs.lemmas.Bool.{cases_eq, and_parts, eqb-true}
use Rattle.std.proofs.lemmas.Bool.Decides.{nat_tests}
use Rattle.std.proofs.lemmas.List.{get_or_default, length-set, length-map, get_or-map, take_all}
use Rattle.std.proofs.lemmas.List.Sorted.{IsPermutation-refl, All-permutation, Contains-permutation}
use Rattle.std.proofs.lemmas.List.Elements.{All-nil, All-cons, All-head, All-tail, All-weaker}
use Rattle.std.proofs.lemmas.Option.{slice_get-get_or, slice_get_within}
use Rattle.ntstatus.specs.declared.NtStatus.{NtStatus}
use Rattle.ntstatus.specs.declared.NtStatus.TheVariants.{Success, DeviceBusy}
use Rattle.srb.specs.declared.Kind.{Kind}
use Rattle.srb.specs.declared.Kind.TheVariants.{Read, Write, Flush}
use Rattle.srb.specs.declared.Class.TheVariants.{Good, Bad, Busy}
use Rattle.machine.specs.declared.ClientRequest.{ClientRequest}
use Rattle.machine.specs.declared.Label.{Label}
use Rattle.machine.specs.declared.Label.TheVariants.{Call, Answer}
use Rattle.machine.specs.Rules.{Rules, is_transfer, first_sector, sectors_of, place_count}
use Rattle.machine.specs.State.{Mark, Untouched, Out, Done, Failed, Back, OpenRequest, State}
use Rattle.machine.specs.Cutting.{mark_at}
use Rattle.machine.specs.Sending.{IsUnsent, IsInTurn, Transfers, is_unsent, status_of_completion}
use Rattle.machine.specs.Answering.{is_done, HasEnded, HasCause, bytes_of_mark, answer_bytes, information}
use Rattle.machine.specs.Numbers.{request_number}
use Rattle.machine.specs.Step.{Step}
use Rattle.machine.proofs.Permuting.{distinct_first}
use Rattle.machine.proofs.Numbers.{AreDistinct-Run}
use Rattle.machine.proofs.Same.{IsSame-refl, IsSame-reordered}
use Rattle.machine_laws.specs.Sectors.{part_of}
use Rattle.machine_laws.proofs.Chunks.{chunk, chunks_join}
use Rattle.machine_laws.proofs.Sectors.{part_is}
use Rattle.history_laws.specs.declared.Asked.{Asked}
use Rattle.history_laws.specs.History.{IsOfService}
use Rattle.history_laws.specs.Schedules.{Seen, Effect, IsAt, IsNoAnswer, TookEffect, IsAnswer}
use Rattle.history_laws.specs.Fitting.{refused, is_failure, asked_of, informed_of, brought, ends}
use Rattle.history_runs.specs.Laws.{IsAddressable}
use Rattle.history_runs.proofs.Blocks.{one_place}
use Rattle.history_runs.proofs.Admitted.{served, IsAdmitted, admitted}
use Rattle.history_runs.proofs.Steps.{Goes, goes_then, goes_seen, at_rest, remarked, carries_out, fails, comes_back}
use Rattle.history_runs.proofs.Marks.{remarked_length, remarked_there, remarked_elsewhere}
use Rattle.history_runs.proofs.Failing.{ending, FailsBy, IsEnding, usable_ends, usable_is, other_ending, own_ending}
use Rattle.history_runs.proofs.Tracking.{Cells, Suits, IsAtPlace, IsTracked, IsOpenHere, Ready, IsFound, find_open, Spares}
use Rattle.history_runs.proofs.Advancing.{part_length}
use Rattle.history_runs.proofs.Seeing.{seen_cells, AreCaughtUp, may_be, seen_request, seen_course, not_call}
use Rattle.history_runs.proofs.Calling.{Passes, block_at, at_within}

-- WHAT AN ANSWER IS

is_zero : (xs : List ℕ) → (length xs == 0) ≡ true → xs ≡ []
is_zero [] e = refl
is_zero (x ∷ xs) e = let none : length (x ∷ xs) ≡ 0 = eqb-true (length (x ∷ xs)) 0 e in absurd (omega arith)

pub ends_how : (a : Asked) (status : NtStatus) (informed count : ℕ) → ends a status informed count ≡ true → (status ≡ Success) ⊎ (is_failure status ≡ true)
ends_how a Success informed count e = inl refl
ends_how a status informed count e = inr (and_parts (is_failure status) ((informed == 0) && (count == 0)) e).0

ends_well : (a : Asked) (informed count : ℕ) → ends a Success informed count ≡ true → (informed ≡ informed_of a) × (count ≡ brought a.kind a.length)
ends_well a informed count e =
    let parts = and_parts (informed == informed_of a) (count == brought a.kind a.length) e in (eqb-true informed (informed_of a) parts.0, eqb-true count (brought a.kind a.length) parts.1)

ends_badly : (a : Asked) (status : NtStatus) (informed count : ℕ) → status ≢ Success → ends a status informed count ≡ true → (informed ≡ 0) × (count ≡ 0)
ends_badly a Success informed count other e = absurd (other refl)
ends_badly a status informed count other e =
    let parts = and_parts (informed == 0) (count == 0) (and_parts (is_failure status) ((informed == 0) && (count == 0)) e).1 in (eqb-true informed 0 parts.0, eqb-true count 0 parts.1)

none_informed : (q : ClientRequest) (status : NtStatus) → status ≢ Success → 0 ≡ information q status
none_informed q Success other = absurd (other refl)
none_informed q status other = refl

no_bytes : (kind : Kind) (marks : List Mark) → list_all is_done marks ≡ false → [] ≡ answer_bytes kind marks
no_bytes Read marks none = rw none refl
no_bytes Write marks none = refl
no_bytes Flush marks none = refl

-- MARKS

all_done : (marks : List Mark) → ((k : ℕ) → k < length marks → is_done (get_or marks k Untouched) ≡ true) → list_all is_done marks ≡ true
all_done [] h = refl
all_done (mark ∷ marks) h = rw (h 0 (omega arith)) (all_done marks (λ k low. h (suc k) (omega arith)))

cause_of_done : (rules : Rules) (s : State) (o : OpenRequest) (marks : List Mark) (status : NtStatus) → list_all is_done marks ≡ true → HasCause rules s o marks status
cause_of_done rules s o [] status h = tt
cause_of_done rules s o (Done sector ∷ marks) status h = cause_of_done rules s o marks status h
cause_of_done rules s o (Untouched ∷ marks) status h = absurd (cc (h))
cause_of_done rules s o (Back ∷ marks) status h = absurd (cc (h))
cause_of_done rules s o (Out ∷ marks) status h = absurd (cc (h))
cause_of_done rules s o (Failed failure ∷ marks) status h = absurd (cc (h))

cause_of_first : (rules : Rules) (s : State) (o : OpenRequest) (marks : List Mark) (status : NtStatus) → 0 < length marks → get_or marks 0 Untouched ≡ Failed status → HasCause rules s o marks status
cause_of_first rules s o [] status some e = absurd (omega arith)
cause_of_first rules s o (mark ∷ marks) status some e = subst (λ m. HasCause rules s o (m ∷ marks) status) (sym e) refl

first_not_done : (marks : List Mark) (status : NtStatus) → 0 < length marks → get_or marks 0 Untouched ≡ Failed status → list_all is_done marks ≡ false
first_not_done [] status some e = absurd (omega arith)
first_not_done (mark ∷ marks) status some e = subst (λ m. (is_done m && list_all is_done marks) ≡ false) (sym e) refl

-- a place that is done, or came back busy
abbrev IsLeft : Mark → Type 0
IsLeft mark = (is_done mark ≡ true) ⊎ (mark ≡ Back)

left_ended : (rules : Rules) (s : State) (o : OpenRequest) (mark : Mark) → rules.busy_limit ≤ o.busy_returns → IsLeft mark → HasEnded rules s o mark
left_ended rules s o mark enough (inl done) = inl done
left_ended rules s o mark enough (inr back) = subst (HasEnded rules s o) (sym back) (inr (DeviceBusy, inr (enough, refl)))

cause_of_back : (rules : Rules) (s : State) (o : OpenRequest) → rules.busy_limit ≤ o.busy_returns → (marks : List Mark) (k : ℕ) → k < length marks
    → ((v : ℕ) → v < length marks → IsLeft (get_or marks v Untouched)) → get_or marks k Untouched ≡ Back → HasCause rules s o marks DeviceBusy
cause_of_back rules s o enough [] k low left e = absurd (omega arith)
cause_of_back rules s o enough (Back ∷ marks) k low left e = inr (enough, refl)
cause_of_back rules s o enough (Done sector ∷ marks) zero low left e = cc (e)
cause_of_back rules s o enough (Done sector ∷ marks) (suc k) low left e = cause_of_back rules s o enough marks k (omega arith) (λ v within. left (suc v) (omega arith)) e
cause_of_back rules s o enough (Untouched ∷ marks) k low left e = absurd (neither (left 0 (omega arith)))
  where
    neither : IsLeft Untouched → ⊥
    neither (inl h) = cc (h)
    neither (inr h) = cc (h)
cause_of_back rules s o enough (Out ∷ marks) k low left e = absurd (neither (left 0 (omega arith)))
  where
    neither : IsLeft Out → ⊥
    neither (inl h) = cc (h)
    neither (inr h) = cc (h)
cause_of_back rules s o enough (Failed failure ∷ marks) k low left e = absurd (neither (left 0 (omega arith)))
  where
    neither : IsLeft (Failed failure) → ⊥
    neither (inl h) = cc (h)
    neither (inr h) = cc (h)

not_all_done : (marks : List Mark) (k : ℕ) → k < length marks → get_or marks k Untouched ≡ Back → list_all is_done marks ≡ false
not_all_done [] k low e = absurd (omega arith)
not_all_done (mark ∷ marks) zero low e = subst (λ m. (is_done m && list_all is_done marks) ≡ false) (sym e) refl
not_all_done (mark ∷ marks) (suc k) low e = rest (is_done mark) (list_all is_done marks) (not_all_done marks k (omega arith) e)
  where
    rest : (x y : Bool) → y ≡ false → (x && y) ≡ false
    rest true y f = f
    rest false y f = refl

not_both : (mark : Mark) → is_done mark ≡ true → IsUnsent mark → ⊥
not_both (Done sector) done unsent = cc (unsent)
not_both Untouched done unsent = cc (done)
not_both Back done unsent = cc (done)
not_both Out done unsent = cc (done)
not_both (Failed failure) done unsent = cc (done)

-- bytes of as many sectors, whose parts these are, join to them
joins : (rules : Rules) (marks : List Mark) (bytes : List ℕ) → length bytes ≡ length marks * rules.sector_size
    → ((k : ℕ) → k < length marks → get_or marks k Untouched ≡ Done (part_of rules bytes k)) → concat (map bytes_of_mark marks) ≡ bytes
joins rules marks bytes long parts =
    sym (ap concat (take_all (length marks) (map bytes_of_mark marks) (rw (length-map marks bytes_of_mark) (omega arith))))
    ∙ chunks_join rules.sector_size (length marks) 0 (map bytes_of_mark marks) bytes long there
  where
    there : (k : ℕ) → k < length marks → slice_get (map bytes_of_mark marks) (0 + k) ≡ Some (chunk rules.sector_size k bytes)
    there k low =
        let none : 0 + k ≡ k = omega arith in
        rw none (slice_get-get_or (map bytes_of_mark marks) k [] (rw (length-map marks bytes_of_mark) low)
        ∙ ap Some (get_or-map bytes_of_mark marks k Untouched [] low ∙ ap bytes_of_mark (parts k low) ∙ part_is rules bytes k))

-- a request that has these places lies there
at_of : (rules : Rules) (q : ClientRequest) (k : ℕ) (h : IsAdmitted rules q) → is_transfer q.kind ≡ true → k < place_count rules q → IsAt rules h.partition (first_sector rules q + k) q k
at_of rules q k h t low = record { partition = h.known; transfer = t; in_bounds = h.in_bounds t; sector = refl; inside = low }

set_none : (asked : List (Option Asked)) (n m : ℕ) (a : Asked) → slice_get (set asked n None) m ≡ Some (Some a) → (m ≢ n) × (slice_get asked m ≡ Some (Some a))
set_none [] n m a e = cc (e)
set_none (y ∷ asked) zero zero a e = cc (e)
set_none (y ∷ asked) zero (suc m) a e = (λ same. absurd (omega arith), e)
set_none (y ∷ asked) (suc n) zero a e = (λ same. absurd (omega arith), e)
set_none (y ∷ asked) (suc n) (suc m) a e = let rest : (m ≢ n) × (slice_get asked m ≡ Some (Some a)) = set_none asked n m a e in (λ same. let same' : m ≡ n = omega arith in rest.0 same', rest.1)

permuted : (rules : Rules) (arrays : List (List (List ℕ))) (next piece : ℕ) (xs ys : List OpenRequest) → IsPermutation xs ys → Goes rules (at_rest arrays next piece xs) [] (at_rest arrays next piece ys)
permuted rules arrays next piece xs ys perm =
    record { labels = []; run = IsSame-reordered (at_rest arrays next piece xs) xs ys [] [] perm (IsPermutation-refl _); serving = All-nil IsOfService; seen = refl }

module _ (rules : Rules) (room : IsAddressable rules) (asked : List (Option Asked)) (cells : Cells) (labels : List Label) (arrays : List (List (List ℕ))) (next piece : ℕ) (requests : List OpenRequest)
    (n : ℕ) (status : NtStatus) (informed : ℕ) (bytes : List ℕ) (ready : Ready rules asked cells (Answer n status informed bytes ∷ labels) arrays next piece requests)
    (caught : AreCaughtUp rules cells) (count : next ≡ length asked) (a : Asked) (waits : slice_get asked n ≡ Some (Some a)) (fits : ends a status informed (length bytes) ≡ true) where
  asks : (q : ClientRequest) × IsOpenHere requests n q × (asked_of q ≡ a)
  asks = ready.awaited n a waits

  found : IsFound requests n asks.0
  found = find_open requests n asks.0 asks.1

  abbrev o : OpenRequest
  o = found.found

  abbrev others : List OpenRequest
  others = found.others

  mine : IsTracked rules cells (Answer n status informed bytes ∷ labels) o
  mine = All-head (IsTracked rules cells (Answer n status informed bytes ∷ labels)) o others (All-permutation (IsTracked rules cells (Answer n status informed bytes ∷ labels)) _ _ found.is_open ready.tracked)

  others_before : All (IsTracked rules cells (Answer n status informed bytes ∷ labels)) others
  others_before = All-tail (IsTracked rules cells (Answer n status informed bytes ∷ labels)) o others (All-permutation (IsTracked rules cells (Answer n status informed bytes ∷ labels)) _ _ found.is_open ready.tracked)

  differ : All (λ x. x.number ≢ n) others
  differ = subst (λ m. All (λ x. x.number ≢ m) others) found.is_number (distinct_first request_number requests o others ready.distinct.requests found.is_open)

  -- it is what the request was bound for
  is_ending : ending o.number (Answer n status informed bytes ∷ labels) ≡ status
  is_ending = own_ending n o.number status informed bytes labels found.is_number ∙ usable_is status (ends_how a status informed (length bytes) fits)

  suits : (k : ℕ) → k < length o.marks → Suits status (mark_at o k)
  suits k low = subst (λ e. Suits e (mark_at o k)) is_ending (mine.suits k low)

  asked_kind : a ≡ asked_of o.request
  asked_kind = sym asks.2 ∙ ap asked_of (sym found.is_request)

  -- THE REQUEST ENDS

  -- once its places have ended
  record Ended : Type 0 where
    o' : OpenRequest
    piece' : ℕ
    goes : Goes (served rules) (at_rest arrays next piece requests) [] (at_rest arrays next piece' (o' ∷ others))
    is_number : o'.number ≡ n
    ended : All (HasEnded (served rules) (at_rest arrays next piece' (o' ∷ others)) o') o'.marks
    success : (status ≡ Success) ↔ IsTrue (list_all is_done o'.marks)
    cause : HasCause (served rules) (at_rest arrays next piece' (o' ∷ others)) o' o'.marks status
    hands_back : bytes ≡ answer_bytes o'.request.kind o'.marks
    informs : informed ≡ information o'.request status

  others_seen : All (IsTracked rules (seen_cells (Answer n status informed bytes) cells) labels) others
  others_seen j d low =
      let x : OpenRequest = get_or others j d in
      let other : x.number ≢ n = differ j d low in
      seen_request rules cells (Answer n status informed bytes) labels x (other_ending n x.number status informed bytes labels (λ e. other (sym e))) (λ r e. cc (e)) (others_before j d low)

  -- whoever else is open is one of the others
  among_others : (m : ℕ) (r : ClientRequest) → m ≢ n → IsOpenHere requests m r → IsOpenHere others m r
  among_others m r other (x, there, number, request) = by_place (Contains-permutation requests (o ∷ others) x found.is_open there)
    where
      by_place : Contains (o ∷ others) x → IsOpenHere others m r
      by_place (zero, low, is) = let same : o ≡ x = is in absurd (other (sym number ∙ ap (λ y. y.number) (sym same) ∙ found.is_number))
      by_place (suc j, low, is) = (x, (j, omega arith, is), number, request)

  passes : Ended → Passes rules (set asked n None) cells (Answer n status informed bytes ∷ []) labels arrays next piece requests
  passes e = record {
    cells' = seen_cells (Answer n status informed bytes) cells;
    arrays' = arrays;
    next' = next;
    piece' = e.piece';
    requests' = others;
    count = count ∙ sym (length-set asked n None);
    same = λ p i. refl;
    goes = goes;
    ready = record {
      distinct = AreDistinct-Run (served rules) (at_rest arrays next piece requests) goes.labels _ ready.distinct goes.run;
      tracked = others_seen;
      courses = λ p i within. let same = length-set asked n None in let low = slice_get_within asked n (Some a) waits in
          seen_course rules (length asked) (length (set asked n None)) (Answer n status informed bytes) labels arrays requests others p i (cells p i) (ready.courses p i within) (caught p i within)
          (omega arith) (omega arith) (λ m r is_open taken.
          let other : n ≢ m = All-head (IsNoAnswer m) (Seen (Answer n status informed bytes)) (cells p i).past is_open.awaits in
          among_others m r (λ e. other (sym e)) ((ready.courses p i within).opens m r (record {
            called = not_call (Answer n status informed bytes) (cells p i).past (Call m r) (λ e. cc (e)) is_open.called;
            awaits = All-tail (IsNoAnswer m) (Seen (Answer n status informed bytes)) (cells p i).past is_open.awaits;
          }) taken));
      awaited = λ m b has. let kept : (m ≢ n) × (slice_get asked m ≡ Some (Some b)) = set_none asked n m b has in let w = ready.awaited m b kept.1 in
          (w.0, among_others m w.0 kept.0 w.1, w.2);
    };
  }
    where
      step : Step (served rules) (at_rest arrays next e.piece' (e.o' ∷ others)) (Answer n status informed bytes) (at_rest arrays next e.piece' others)
      step = inl (
        refl,
        record {
          answers = record {
            request = e.o';
            others = others;
            is_open = IsPermutation-refl _;
            is_number = e.is_number;
            ended = e.ended;
            success = e.success;
            cause = e.cause;
            hands_back = e.hands_back;
            after = IsSame-refl _;
          };
          informs = e.informs;
        },
      )

      goes : Goes (served rules) (at_rest arrays next piece requests) (Answer n status informed bytes ∷ []) (at_rest arrays next e.piece' others)
      goes =
          goes_then (served rules) (at_rest arrays next piece requests) (at_rest arrays next e.piece' (e.o' ∷ others)) (at_rest arrays next e.piece' others) [] (Answer n status informed bytes ∷ [])
          e.goes (goes_seen (served rules) (at_rest arrays next e.piece' (e.o' ∷ others)) (at_rest arrays next e.piece' others) (Answer n status informed bytes) tt refl step)

  in_turn : (o' : OpenRequest) → All (IsInTurn o') (o' ∷ others)
  in_turn o' =
      All-cons (IsInTurn o') o' others (λ lower waits. absurd (omega arith))
      (All-weaker (IsTracked rules cells (Answer n status informed bytes ∷ labels)) (IsInTurn o') (λ x t lower waits. t.started) others others_before)

  -- IT FAILS

  -- the places before this one have failed
  record Fails (j : ℕ) : Type 0 where
    o' : OpenRequest
    piece' : ℕ
    goes : Goes (served rules) (at_rest arrays next piece requests) [] (at_rest arrays next piece' (o' ∷ others))
    is_number : o'.number ≡ n
    is_request : o'.request ≡ o.request
    not_cancelled : o'.cancelled ≡ false
    long : length o'.marks ≡ place_count rules o.request
    suit : (k : ℕ) → k < length o'.marks → Suits status (mark_at o' k)
    failed : (k : ℕ) → k < j → mark_at o' k ≡ Failed status

  fail_places : FailsBy status → (j : ℕ) → j ≤ place_count rules o.request → Fails j
  fail_places by zero most = record {
    o' = o;
    piece' = piece;
    goes = permuted (served rules) arrays next piece requests (o ∷ others) found.is_open;
    is_number = found.is_number;
    is_request = refl;
    not_cancelled = mine.waits;
    long = mine.places;
    suit = suits;
    failed = λ k low. absurd (omega arith);
  }
  fail_places by (suc j) most = by_mark (fail_places by j (omega arith))
    where
      by_mark : Fails j → Fails (suc j)
      by_mark f = at_mark (mark_at f.o' j) refl (f.suit j inside)
        where
          inside : j < length f.o'.marks
          inside = rw f.long (omega arith)

          more : (o'' : OpenRequest) → mark_at o'' j ≡ Failed status → ((k : ℕ) → k ≢ j → mark_at o'' k ≡ mark_at f.o' k) → (k : ℕ) → k < suc j → mark_at o'' k ≡ Failed status
          more o'' here elsewhere k low = elim (cases_eq k j) [
            | inl same ↦ ap (λ m. mark_at o'' m) same ∙ here
            | inr other ↦ elsewhere k other ∙ f.failed k (omega arith)
          ]

          sends : IsUnsent (mark_at f.o' j) → Fails (suc j)
          sends unsent = record {
            o' = remarked j (Bad by.completion) (Failed (status_of_completion by.completion)) f.o';
            piece' = f.piece' + 1;
            goes = goes_then (served rules) (at_rest arrays next piece requests) (at_rest arrays next f.piece' (f.o' ∷ others))
                (at_rest arrays next (f.piece' + 1) (remarked j (Bad by.completion) (Failed (status_of_completion by.completion)) f.o' ∷ others)) [] [] f.goes
                (fails rules arrays next f.piece' (f.o' ∷ others) others f.o' j (IsPermutation-refl _) (in_turn f.o') f.not_cancelled inside unsent
                (block_at rules f.o'.request j room (ap (refused rules) f.is_request ∙ mine.taken) (rw f.is_request (omega arith)))
                (Bad by.completion) (Failed (status_of_completion by.completion)) (by.is_bad, refl));
            is_number = f.is_number;
            is_request = f.is_request;
            not_cancelled = f.not_cancelled;
            long = remarked_length j (Bad by.completion) (Failed (status_of_completion by.completion)) f.o' inside ∙ f.long;
            suit = λ k low. suit k (rw (remarked_length j (Bad by.completion) (Failed (status_of_completion by.completion)) f.o' inside) at low);
            failed = more (remarked j (Bad by.completion) (Failed (status_of_completion by.completion)) f.o') here (λ k other. elsewhere k other);
          }
            where
              here : mark_at (remarked j (Bad by.completion) (Failed (status_of_completion by.completion)) f.o') j ≡ Failed status
              here = remarked_there j (Bad by.completion) (Failed (status_of_completion by.completion)) f.o' inside ∙ ap Failed by.is_status

              elsewhere : (k : ℕ) → k ≢ j → mark_at (remarked j (Bad by.completion) (Failed (status_of_completion by.completion)) f.o') k ≡ mark_at f.o' k
              elsewhere k other = remarked_elsewhere j (Bad by.completion) (Failed (status_of_completion by.completion)) f.o' inside k other

              suit : (k : ℕ) → k < length f.o'.marks → Suits status (mark_at (remarked j (Bad by.completion) (Failed (status_of_completion by.completion)) f.o') k)
              suit k low = elim (cases_eq k j) [
                | inl same ↦ subst (Suits status) (sym (ap (λ m. mark_at (remarked j (Bad by.completion) (Failed (status_of_completion by.completion)) f.o') m) same ∙ here)) (refl, by.fails, by.not_busy)
                | inr other ↦ subst (Suits status) (sym (elsewhere k other)) (f.suit k low)
              ]

          neither : (status ≡ Success) ⊎ (status ≡ DeviceBusy) → ⊥
          neither (inl e) = by.fails e
          neither (inr e) = by.not_busy e

          at_mark : (mark : Mark) → mark_at f.o' j ≡ mark → Suits status (mark_at f.o' j) → Fails (suc j)
          at_mark Untouched e fit = sends (ap is_unsent e)
          at_mark Back e fit = sends (ap is_unsent e)
          at_mark (Failed failure) e fit =
              let fit' : Suits status (Failed failure) = subst (Suits status) e fit in
              record {
                o' = f.o';
                piece' = f.piece';
                goes = f.goes;
                is_number = f.is_number;
                is_request = f.is_request;
                not_cancelled = f.not_cancelled;
                long = f.long;
                suit = f.suit;
                failed = more f.o' (e ∙ ap Failed fit'.0) (λ k other. refl);
              }
          at_mark (Done sector) e fit = absurd (neither (subst (Suits status) e fit))
          at_mark Out e fit = absurd (subst (Suits status) e fit)

  fails_so : FailsBy status → Ended
  fails_so by = ended (fail_places by (place_count rules o.request) (omega arith))
    where
      ended : Fails (place_count rules o.request) → Ended
      ended f = record {
        o' = f.o';
        piece' = f.piece';
        goes = f.goes;
        is_number = f.is_number;
        ended = λ k d low. subst (HasEnded (served rules) (at_rest arrays next f.piece' (f.o' ∷ others)) f.o') (sym (get_or_default f.o'.marks k d Untouched low ∙ failed k low)) (inr (status, refl));
        success = (λ e. absurd (by.fails e), λ e. cc (none_done, e));
        cause = cause_of_first (served rules) (at_rest arrays next f.piece' (f.o' ∷ others)) f.o' f.o'.marks status some (failed 0 some);
        hands_back = is_zero bytes (zero_is (length bytes) told.1) ∙ no_bytes f.o'.request.kind f.o'.marks none_done;
        informs = told.0 ∙ none_informed f.o'.request status by.fails;
      }
        where
          failed : (k : ℕ) → k < length f.o'.marks → mark_at f.o' k ≡ Failed status
          failed k low = f.failed k (rw (← f.long) low)

          some : 0 < length f.o'.marks
          some = rw f.long (admitted rules o.request mine.taken).some

          none_done : list_all is_done f.o'.marks ≡ false
          none_done = first_not_done f.o'.marks status some (failed 0 some)

          told : (informed ≡ 0) × (length bytes ≡ 0)
          told = ends_badly a status informed (length bytes) by.fails fits

          zero_is : (m : ℕ) → m ≡ 0 → (m == 0) ≡ true
          zero_is m e = grind (arith, nat_tests)

  -- IT COMES BACK BUSY

  module _ (busy : status ≡ DeviceBusy) where
    spare : Spares rules cells o
    spare = mine.spares (is_ending ∙ busy)

    -- the places before this one have ended, and so many pieces came back busy
    record Backs (j m : ℕ) : Type 0 where
      o' : OpenRequest
      piece' : ℕ
      goes : Goes (served rules) (at_rest arrays next piece requests) [] (at_rest arrays next piece' (o' ∷ others))
      is_number : o'.number ≡ n
      is_request : o'.request ≡ o.request
      not_cancelled : o'.cancelled ≡ false
      long : length o'.marks ≡ place_count rules o.request
      suit : (k : ℕ) → k < length o'.marks → Suits status (mark_at o' k)
      left : (k : ℕ) → k < j → IsLeft (mark_at o' k)
      unsent : IsUnsent (mark_at o' spare.place)
      returns : m ≤ o'.busy_returns

    -- a place that waits is sent, and comes back busy
    abbrev sends_back : (j m : ℕ) (b : Backs j m) (k : ℕ) → k < place_count rules o.request → IsUnsent (mark_at b.o' k) → Backs j (suc m)
    sends_back j m b k low waits' = record {
      o' = remarked k Busy Back b.o';
      piece' = b.piece' + 1;
      goes = goes_then (served rules) (at_rest arrays next piece requests) (at_rest arrays next b.piece' (b.o' ∷ others)) (at_rest arrays next (b.piece' + 1) (remarked k Busy Back b.o' ∷ others)) [] [] b.goes
          (comes_back rules arrays next b.piece' (b.o' ∷ others) others b.o' k (IsPermutation-refl _) (in_turn b.o') b.not_cancelled inside waits'
          (block_at rules b.o'.request k room (ap (refused rules) b.is_request ∙ mine.taken) (rw b.is_request low)));
      is_number = b.is_number;
      is_request = b.is_request;
      not_cancelled = b.not_cancelled;
      long = remarked_length k Busy Back b.o' inside ∙ b.long;
      suit = λ v within. at v (Suits status) tt (λ other. b.suit v (rw (remarked_length k Busy Back b.o' inside) at within));
      left = λ v before. at v IsLeft (inr refl) (λ other. b.left v before);
      unsent = at spare.place IsUnsent refl (λ other. b.unsent);
      returns = let more = b.returns in omega arith;
    }
      where
        inside : k < length b.o'.marks
        inside = rw b.long low

        at : (v : ℕ) (P : Mark → Type 0) → P Back → (v ≢ k → P (mark_at b.o' v)) → P (mark_at (remarked k Busy Back b.o') v)
        at v P here beside = elim (cases_eq v k) [
          | inl same ↦ subst P (sym (ap (λ w. mark_at (remarked k Busy Back b.o') w) same ∙ remarked_there k Busy Back b.o' inside)) here
          | inr other ↦ subst P (sym (remarked_elsewhere k Busy Back b.o' inside v other)) (beside other)
        ]

    -- all places end
    back_places : (j : ℕ) → j ≤ place_count rules o.request → Backs j 0
    back_places zero most = record {
      o' = o;
      piece' = piece;
      goes = permuted (served rules) arrays next piece requests (o ∷ others) found.is_open;
      is_number = found.is_number;
      is_request = refl;
      not_cancelled = mine.waits;
      long = mine.places;
      suit = suits;
      left = λ k low. absurd (omega arith);
      unsent = spare.unsent;
      returns = omega arith;
    }
    back_places (suc j) most = by_mark (back_places j (omega arith))
      where
        by_mark : Backs j 0 → Backs (suc j) 0
        by_mark b = at_mark (mark_at b.o' j) refl (b.suit j inside)
          where
            inside : j < length b.o'.marks
            inside = rw b.long (omega arith)

            with_last : (m : ℕ) (d : Backs j m) → IsLeft (mark_at d.o' j) → Backs (suc j) 0
            with_last m d last = record {
              o' = d.o';
              piece' = d.piece';
              goes = d.goes;
              is_number = d.is_number;
              is_request = d.is_request;
              not_cancelled = d.not_cancelled;
              long = d.long;
              suit = d.suit;
              left = λ k low. elim (cases_eq k j) [
                | inl same ↦ subst (λ v. IsLeft (mark_at d.o' v)) (sym same) last
                | inr other ↦ d.left k (omega arith)
              ];
              unsent = d.unsent;
              returns = omega arith;
            }

            sends : IsUnsent (mark_at b.o' j) → Backs (suc j) 0
            sends waits' =
                with_last 1 (sends_back j 0 b j (omega arith) waits') (inr (remarked_there j Busy Back b.o' inside))

            at_mark : (mark : Mark) → mark_at b.o' j ≡ mark → Suits status (mark_at b.o' j) → Backs (suc j) 0
            at_mark Untouched e fit = sends (ap is_unsent e)
            at_mark Back e fit = with_last 0 b (inr e)
            at_mark (Done sector) e fit = with_last 0 b (inl (ap is_done e))
            at_mark (Failed failure) e fit = let fit' : Suits status (Failed failure) = subst (Suits status) e fit in absurd (fit'.2 busy)
            at_mark Out e fit = absurd (subst (Suits status) e fit)

    -- the spared place comes back so often
    back_often : (m : ℕ) → Backs (place_count rules o.request) m
    back_often zero = back_places (place_count rules o.request) (omega arith)
    back_often (suc m) = let b : Backs (place_count rules o.request) m = back_often m in sends_back (place_count rules o.request) m b spare.place (rw mine.places at spare.inside) b.unsent

    busy_so : Ended
    busy_so = ended (back_often rules.busy_limit)
      where
        ended : Backs (place_count rules o.request) rules.busy_limit → Ended
        ended b = record {
          o' = b.o';
          piece' = b.piece';
          goes = b.goes;
          is_number = b.is_number;
          ended = λ k d low. subst (HasEnded (served rules) (at_rest arrays next b.piece' (b.o' ∷ others)) b.o') (sym (get_or_default b.o'.marks k d Untouched low))
              (left_ended (served rules) (at_rest arrays next b.piece' (b.o' ∷ others)) b.o' (mark_at b.o' k) b.returns (left k low));
          success = (λ e. absurd (never (sym e ∙ busy)), λ e. cc (none_done, e));
          cause = subst (HasCause (served rules) (at_rest arrays next b.piece' (b.o' ∷ others)) b.o' b.o'.marks) (sym busy)
              (cause_of_back (served rules) (at_rest arrays next b.piece' (b.o' ∷ others)) b.o' b.returns b.o'.marks spare.place inside left is_back);
          hands_back = is_zero bytes (zero_is (length bytes) told.1) ∙ no_bytes b.o'.request.kind b.o'.marks none_done;
          informs = told.0 ∙ none_informed b.o'.request status (λ e. never (sym e ∙ busy));
        }
          where
            never : Success ≡ DeviceBusy → ⊥
            never e = cc (e)

            left : (k : ℕ) → k < length b.o'.marks → IsLeft (mark_at b.o' k)
            left k low = b.left k (rw (← b.long) low)

            inside : spare.place < length b.o'.marks
            inside = rw b.long (rw mine.places at spare.inside)

            is_back : mark_at b.o' spare.place ≡ Back
            is_back = elim (left spare.place inside) [
              | inl done ↦ absurd (not_both (mark_at b.o' spare.place) done b.unsent)
              | inr back ↦ back
            ]

            none_done : list_all is_done b.o'.marks ≡ false
            none_done = not_all_done b.o'.marks spare.place inside is_back

            told : (informed ≡ 0) × (length bytes ≡ 0)
            told = ends_badly a status informed (length bytes) (λ e. never (sym e ∙ busy)) fits

            zero_is : (m : ℕ) → m ≡ 0 → (m == 0) ≡ true
            zero_is m e = grind (arith, nat_tests)

  -- IT SUCCEEDS

  module _ (success : status ≡ Success) where
    told : (informed ≡ informed_of a) × (length bytes ≡ brought a.kind a.length)
    told = ends_well a informed (length bytes) (subst (λ e. ends a e informed (length bytes) ≡ true) success fits)

    informs : informed ≡ information o.request status
    informs = told.0 ∙ ap informed_of asked_kind ∙ ap (information o.request) (sym success)

    -- a place of a transfer took effect
    record IsDoneAt (k : ℕ) : Type 0 where
      sector : List ℕ
      is_there : mark_at o k ≡ Done sector
      hands_over : o.request.kind ≡ Read → part_of rules bytes k ≡ sector

    taken : IsAdmitted rules o.request
    taken = admitted rules o.request mine.taken

    -- a read's bytes are those of its places
    read_long : o.request.kind ≡ Read → length bytes ≡ place_count rules o.request * rules.sector_size
    read_long read = told.1 ∙ ap (λ b. brought b.kind b.length) asked_kind ∙ ap (λ kind. brought kind o.request.length) read ∙ sym (taken.whole (ap is_transfer read))

    done_at : is_transfer o.request.kind ≡ true → (k : ℕ) → k < place_count rules o.request → IsDoneAt k
    done_at t k low = there (may_be rules (length asked) (Answer n status informed bytes) labels arrays requests taken.partition i (cells taken.partition i) (ready.courses taken.partition i within) (caught taken.partition i within)).0
      where
        i : ℕ
        i = first_sector rules o.request + k

        at : IsAt rules taken.partition (first_sector rules o.request + k) o.request k
        at = at_of rules o.request k taken t low

        within : first_sector rules o.request + k < sectors_of rules (Some taken.partition)
        within = at_within rules taken.partition (first_sector rules o.request + k) o.request k at

        there : IsAnswer rules taken.partition (first_sector rules o.request + k) (cells taken.partition (first_sector rules o.request + k)).past n status bytes → IsDoneAt k
        there h =
            let same : o.request ≡ h.request =
            mine.named taken.partition (first_sector rules o.request + k) within h.request (subst (λ m. Contains (cells taken.partition (first_sector rules o.request + k)).past (Seen (Call m h.request))) (sym found.is_number) h.is_open.called) in
            let took : TookEffect rules (cells taken.partition (first_sector rules o.request + k)).past n h.request k bytes =
            h.effect success k (subst (λ q. IsAt rules taken.partition (first_sector rules o.request + k) q k) same at) in
            let hands : o.request.kind ≡ Read → part_of rules bytes k ≡ took.sector = λ read. took.hands_over (ap (λ q. q.kind) (sym same) ∙ read) in
            let place : IsAtPlace rules (cells taken.partition (first_sector rules o.request + k)).past (ending o.number (Answer n status informed bytes ∷ labels)) o k = mine.at_places taken.partition (first_sector rules o.request + k) k at in
            record {
              sector = took.sector;
              is_there = place.done (is_ending ∙ success) took.sector (subst (λ m. Contains (cells taken.partition (first_sector rules o.request + k)).past (Effect m took.sector)) (sym found.is_number) took.before)
                  (λ read. ap length (sym (hands read)) ∙ part_length bytes k (place_count rules o.request) rules.sector_size low (read_long read));
              hands_over = hands;
            }

    -- all places are done
    record IsDone : Type 0 where
      o' : OpenRequest
      piece' : ℕ
      goes : Goes (served rules) (at_rest arrays next piece requests) [] (at_rest arrays next piece' (o' ∷ others))
      is_number : o'.number ≡ n
      is_request : o'.request ≡ o.request
      done : (k : ℕ) → k < length o'.marks → is_done (mark_at o' k) ≡ true
      hands_back : bytes ≡ answer_bytes o'.request.kind o'.marks

    well : IsDone → Ended
    well d = record {
      o' = d.o';
      piece' = d.piece';
      goes = d.goes;
      is_number = d.is_number;
      ended = λ k x low. inl (ap is_done (get_or_default d.o'.marks k x Untouched low) ∙ d.done k low);
      success = (λ e. all, λ e. success);
      cause = cause_of_done (served rules) (at_rest arrays next d.piece' (d.o' ∷ others)) d.o' d.o'.marks status all;
      hands_back = d.hands_back;
      informs = informs ∙ ap (λ q. information q status) (sym d.is_request);
    }
      where
        all : list_all is_done d.o'.marks ≡ true
        all = all_done d.o'.marks d.done

    no_write_bytes : (kind : Kind) → o.request.kind ≡ kind → brought kind o.request.length ≡ 0 → bytes ≡ []
    no_write_bytes kind e none = empty bytes (told.1 ∙ ap (λ b. brought b.kind b.length) asked_kind ∙ ap (λ k. brought k o.request.length) e ∙ none)
      where
        empty : (xs : List ℕ) → length xs ≡ 0 → xs ≡ []
        empty [] e = refl
        empty (x ∷ xs) e = absurd (omega arith)

    transfer_done : is_transfer o.request.kind ≡ true → bytes ≡ answer_bytes o.request.kind o.marks → IsDone
    transfer_done t hands = record {
      o' = o;
      piece' = piece;
      goes = permuted (served rules) arrays next piece requests (o ∷ others) found.is_open;
      is_number = found.is_number;
      is_request = refl;
      done = λ k low. let d : IsDoneAt k = done_at t k (rw mine.places at low) in ap is_done d.is_there;
      hands_back = hands;
    }

    read_back : o.request.kind ≡ Read → bytes ≡ answer_bytes o.request.kind o.marks
    read_back read =
        let all : list_all is_done o.marks ≡ true = all_done o.marks (λ k low. let d : IsDoneAt k = done_at (ap is_transfer read) k (rw mine.places at low) in ap is_done d.is_there) in
        rw (read, all) (sym (joins rules o.marks bytes (read_long read ∙ ap (λ m. m * rules.sector_size) (sym mine.places))
        (λ k low. let d : IsDoneAt k = done_at (ap is_transfer read) k (rw mine.places at low) in d.is_there ∙ ap Done (sym (d.hands_over read)))))

    flush_done : o.request.kind ≡ Flush → IsDone
    flush_done flush = at_mark (mark_at o 0) refl (suits 0 some)
      where
        some : 0 < length o.marks
        some = rw mine.places taken.some

        one : length o.marks ≡ 1
        one = mine.places ∙ one_for o.request.kind flush
          where
            one_for : (kind : Kind) → kind ≡ Flush → (if is_transfer kind then o.request.length / rules.sector_size else 1) ≡ 1
            one_for kind e = rw e refl

        back_none : (marks : List Mark) → bytes ≡ answer_bytes o.request.kind marks
        back_none marks = no_write_bytes Flush flush refl ∙ ap (λ kind. answer_bytes kind marks) (sym flush)

        only : (o' : OpenRequest) → length o'.marks ≡ length o.marks → is_done (mark_at o' 0) ≡ true → (k : ℕ) → k < length o'.marks → is_done (mark_at o' k) ≡ true
        only o' long first k low = let none : 0 ≡ k = omega (arith, one, long) in subst (λ m. is_done (mark_at o' m) ≡ true) none first

        acts : IsUnsent (mark_at o 0) → IsDone
        acts unsent = record {
          o' = remarked 0 Good (Done []) o;
          piece' = piece + 1;
          goes = carries_out rules arrays next piece requests others o 0 found.is_open
              (All-weaker (IsTracked rules cells (Answer n status informed bytes ∷ labels)) (IsInTurn o) (λ x t lower waits. t.started) requests ready.tracked) mine.waits some unsent
              (block_at rules o.request 0 room mine.taken taken.some) [] arrays Good (Done [])
              (subst (λ kind. Transfers (served rules) (at_rest arrays next piece requests) o.request (one_place 0) kind ([] ∷ []) arrays) (sym flush) (refl, refl)) ([] ∷ [], refl, refl);
          is_number = found.is_number;
          is_request = refl;
          done = only (remarked 0 Good (Done []) o) (remarked_length 0 Good (Done []) o some) (ap is_done (remarked_there 0 Good (Done []) o some));
          hands_back = back_none (remarked 0 Good (Done []) o).marks;
        }

        at_mark : (mark : Mark) → mark_at o 0 ≡ mark → Suits status (mark_at o 0) → IsDone
        at_mark Untouched e fit = acts (ap is_unsent e)
        at_mark Back e fit = acts (ap is_unsent e)
        at_mark (Done sector) e fit = record {
          o' = o;
          piece' = piece;
          goes = permuted (served rules) arrays next piece requests (o ∷ others) found.is_open;
          is_number = found.is_number;
          is_request = refl;
          done = only o refl (ap is_done e);
          hands_back = back_none o.marks;
        }
        at_mark (Failed failure) e fit = let fit' : Suits status (Failed failure) = subst (Suits status) e fit in absurd (fit'.1 success)
        at_mark Out e fit = absurd (subst (Suits status) e fit)

    succeeds : Ended
    succeeds = by_kind o.request.kind refl
      where
        by_kind : (kind : Kind) → o.request.kind ≡ kind → Ended
        by_kind Read e = well (transfer_done (ap is_transfer e) (read_back e))
        by_kind Write e = well (transfer_done (ap is_transfer e) (no_write_bytes Write e refl ∙ ap (λ kind. answer_bytes kind o.marks) (sym e)))
        by_kind Flush e = well (flush_done e)

  pub answer_passes : Passes rules (set asked n None) cells (Answer n status informed bytes ∷ []) labels arrays next piece requests
  answer_passes = by_end (subst IsEnding (usable_is status (ends_how a status informed (length bytes) fits)) (usable_ends status))
    where
      by_end : IsEnding status → Passes rules (set asked n None) cells (Answer n status informed bytes ∷ []) labels arrays next piece requests
      by_end (inl success) = passes (succeeds success)
      by_end (inr (inl busy)) = passes (busy_so busy)
      by_end (inr (inr by)) = passes (fails_so by)
