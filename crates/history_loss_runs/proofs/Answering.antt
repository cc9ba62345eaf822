-- An answer: the places that are left fail, or a flush acts, and the request ends.
use Rattle.std.proofs.Common.{◌≡◌, ◌≢◌, ◌<◌, ◌≤◌, inl, inr, ℕ, zero, suc, ◌+◌, ◌*◌, ◌==◌, ◌&&◌, true, false, List, [], ◌∷◌, Option, Some, None, refl, sym, ◌∙◌, ap, subst, arith, length, get_or, map, set}
use Rattle.std.specs.Prelude.{All, Contains, IsPermutation, IsTrue, ◌↔◌, is_none, slice_get}
use Rattle.std.specs.List.{concat, list_all}
use Rattle.std.proofs.lemmas.Bool.{and_parts, cases_eq, eqb-true}
use Rattle.std.proofs.lemmas.List.{get_or_default, length-set, length-map, get_or-map, take_all}
use Rattle.std.proofs.lemmas.List.Sorted.{IsPermutation-refl, IsPermutation-sym, All-permutation, Contains-permutation, length_permutation}
use Rattle.std.proofs.lemmas.List.Elements.{All-cons, All-head, All-tail, All-weaker}
use Rattle.std.proofs.lemmas.Option.{slice_get-get_or, slice_get_within}
use Rattle.ntstatus.specs.declared.NtStatus.{NtStatus}
use Rattle.ntstatus.specs.declared.NtStatus.TheVariants.{Success}
use Rattle.sector.specs.Splice.{splice}
use Rattle.sector.proofs.Splicing.{length-splice}
use Rattle.srb.specs.declared.Kind.{Kind}
use Rattle.srb.specs.declared.Kind.TheVariants.{Read, Write, Flush}
use Rattle.srb.specs.declared.Class.TheVariants.{Good, Bad}
use Rattle.machine.specs.declared.ClientRequest.{ClientRequest}
use Rattle.machine.specs.declared.Label.TheVariants.{Call, Answer}
use Rattle.machine.specs.Rules.{Rules, is_transfer, place_count}
use Rattle.machine.specs.State.{Mark, Untouched, Out, Done, Failed, Back, OpenRequest, Piece, State}
use Rattle.machine.specs.Answering.{HasCause, HasEnded, answer_bytes, bytes_of_mark, information, is_done}
use Rattle.machine.specs.Cutting.{mark_at}
use Rattle.machine.specs.Sending.{IsInTurn, IsLowestFreeTag, IsUnsent, Transfers, command_for, given_back, is_unsent, status_of_completion}
use Rattle.machine.specs.Numbers.{request_number}
use Rattle.machine.proofs.Permuting.{distinct_first}
use Rattle.machine.proofs.Placed.{get_or-splice_inside}
use Rattle.machine.proofs.Same.{IsSame-refl}
use Rattle.machine_laws.specs.Sectors.{part_of}
use Rattle.machine_laws.proofs.Chunks.{chunk, chunks_join}
use Rattle.machine_laws.proofs.Sectors.{part_is}
use Rattle.history_laws.specs.declared.Asked.{Asked}
use Rattle.history_laws.specs.Fitting.{asked_of, brought, ends, informed_of, is_failure, refused}
use Rattle.history_runs.specs.Laws.{IsAddressable}
use Rattle.history_runs.proofs.Admitted.{IsAdmitted as IsTaken, admitted}
use Rattle.history_runs.proofs.Advancing.{part_length}
use Rattle.history_runs.proofs.Answering.{ends_how}
use Rattle.history_runs.proofs.Blocks.{BlockOf}
use Rattle.history_runs.proofs.Calling.{block_at}
use Rattle.history_runs.proofs.Failing.{FailsBy, ending, other_ending, own_ending, usable_is}
use Rattle.history_runs.proofs.Marks.{remarked_length, remarked_there, remarked_elsewhere}
use Rattle.history_runs.proofs.Steps.{remarked}
use Rattle.history_runs.proofs.Tracking.{IsFound, IsOpenHere, find_open}
use Rattle.loss.specs.Held.{Held, Syncs, act_changes, changed, changed_by, fault_changes}
use Rattle.loss.specs.Moved.{HandsOver, Table, work_of}
use Rattle.loss.specs.Laws.{sector_of}
use Rattle.loss.specs.Sessions.{Told, LineStep}
use Rattle.history_loss.specs.Schedules.{Event, Seen, Effect, IsAnswer, IsAt, IsNoAnswer, IsNoFailure, TookEffect, answered, one_place}
use Rattle.history_loss.proofs.Places.{fault_fails, flush_act}
use Rattle.history_loss_runs.proofs.Having.{Has, has_fewer, has_grown, has_synced}
use Rattle.history_loss_runs.proofs.Steps.{Goes, failed_table, fails, flush_acts, flush_fails, goes_line, goes_nowhere, goes_then, moment, standing, storing}
use Rattle.history_loss_runs.proofs.Tags.{lowest_free}
use Rattle.history_loss_runs.proofs.Tracking.{Cells, IsAtPlace, IsOutFlush, IsTracked, Ready, Suits, Track, all_shared, flush_piece, labels_till, shared_seen}
use Rattle.history_loss_runs.proofs.Advancing.{IsBound, seen_distinct, told_one}
use Rattle.history_loss_runs.proofs.Catching.{IsCaughtUp}
use Rattle.history_loss_runs.proofs.Failures.{flush_places, other_flush, taken_out}
use Rattle.history_loss_runs.proofs.Sharing.{IsShared, Passes, behind_first, helds, seen_cells, seen_courses, seen_track, takes}

-- WHAT AN ANSWER IS

ends_well : (a : Asked) (informed count : ℕ) → ends a Success informed count ≡ true → (informed ≡ informed_of a) × (count ≡ brought a.kind a.length)
ends_well a informed count e = let parts = and_parts (informed == informed_of a) (count == brought a.kind a.length) e in (eqb-true informed _ parts.0, eqb-true count _ parts.1)

ends_badly : (a : Asked) (status : NtStatus) (informed count : ℕ) → status ≢ Success → ends a status informed count ≡ true → (informed ≡ 0) × (count ≡ 0)
ends_badly a Success informed count other e = absurd (other refl)
ends_badly a status informed count other e =
    let parts = and_parts (informed == 0) (count == 0) (and_parts (is_failure status) ((informed == 0) && (count == 0)) e).1 in (eqb-true informed 0 parts.0, eqb-true count 0 parts.1)

none_informed : (q : ClientRequest) (status : NtStatus) → status ≢ Success → 0 ≡ information q status
none_informed q Success other = absurd (other refl)
none_informed q status other = refl

no_bytes : (kind : Kind) (marks : List Mark) → list_all is_done marks ≡ false → [] ≡ answer_bytes kind marks
no_bytes Read marks none = rw none refl
no_bytes Write marks none = refl
no_bytes Flush marks none = refl

empty : (xs : List ℕ) → length xs ≡ 0 → xs ≡ []
empty [] e = refl
empty (x ∷ xs) e = absurd (omega arith)

-- MARKS

all_done : (marks : List Mark) → ((k : ℕ) → k < length marks → is_done (get_or marks k Untouched) ≡ true) → list_all is_done marks ≡ true
all_done [] h = refl
all_done (mark ∷ marks) h = rw (h 0 (omega arith)) (all_done marks (λ k low. h (suc k) (omega arith)))

cause_of_done : (rules : Rules) (s : State) (o : OpenRequest) (marks : List Mark) (status : NtStatus) → list_all is_done marks ≡ true → HasCause rules s o marks status
cause_of_done rules s o [] status h = tt
cause_of_done rules s o (Done sector ∷ marks) status h = cause_of_done rules s o marks status h
cause_of_done rules s o (Untouched ∷ marks) status h = absurd (cc (h))
cause_of_done rules s o (Back ∷ marks) status h = absurd (cc (h))
cause_of_done rules s o (Out ∷ marks) status h = absurd (cc (h))
cause_of_done rules s o (Failed failure ∷ marks) status h = absurd (cc (h))

cause_of_first : (rules : Rules) (s : State) (o : OpenRequest) (marks : List Mark) (status : NtStatus) → 0 < length marks → get_or marks 0 Untouched ≡ Failed status → HasCause rules s o marks status
cause_of_first rules s o [] status some e = absurd (omega arith)
cause_of_first rules s o (mark ∷ marks) status some e = subst (λ m. HasCause rules s o (m ∷ marks) status) (sym e) refl

first_not_done : (marks : List Mark) (status : NtStatus) → 0 < length marks → get_or marks 0 Untouched ≡ Failed status → list_all is_done marks ≡ false
first_not_done [] status some e = absurd (omega arith)
first_not_done (mark ∷ marks) status some e = subst (λ m. (is_done m && list_all is_done marks) ≡ false) (sym e) refl

-- bytes of as many sectors, whose parts these are, join to them
joins : (rules : Rules) (marks : List Mark) (bytes : List ℕ) → length bytes ≡ length marks * rules.sector_size
    → ((k : ℕ) → k < length marks → get_or marks k Untouched ≡ Done (part_of rules bytes k)) → concat (map bytes_of_mark marks) ≡ bytes
joins rules marks bytes long parts =
    sym (ap concat (take_all (length marks) (map bytes_of_mark marks) (rw (length-map marks bytes_of_mark) (omega arith))))
    ∙ chunks_join rules.sector_size (length marks) 0 (map bytes_of_mark marks) bytes long there
  where
    there : (k : ℕ) → k < length marks → slice_get (map bytes_of_mark marks) (0 + k) ≡ Some (chunk rules.sector_size k bytes)
    there k low =
        let none : 0 + k ≡ k = omega arith in
        rw none (slice_get-get_or (map bytes_of_mark marks) k [] (rw (length-map marks bytes_of_mark) low)
        ∙ ap Some (get_or-map bytes_of_mark marks k Untouched [] low ∙ ap bytes_of_mark (parts k low) ∙ part_is rules bytes k))

set_none : (asked : List (Option Asked)) (n m : ℕ) (a : Asked) → slice_get (set asked n None) m ≡ Some (Some a) → (m ≢ n) × (slice_get asked m ≡ Some (Some a))
set_none [] n m a e = cc (e)
set_none (y ∷ asked) zero zero a e = cc (e)
set_none (y ∷ asked) zero (suc m) a e = (λ same. absurd (omega arith), e)
set_none (y ∷ asked) (suc n) zero a e = (λ same. absurd (omega arith), e)
set_none (y ∷ asked) (suc n) (suc m) a e = let rest : (m ≢ n) × (slice_get asked m ≡ Some (Some a)) = set_none asked n m a e in (λ same. let same' : m ≡ n = omega arith in rest.0 same', rest.1)

module _ (rules : Rules) (depth : ℕ) (room : IsAddressable rules) (asked : List (Option Asked)) (cells : Cells) (sp ss : List Event) (arrays : List (List (List ℕ))) (next piece : ℕ) (requests : List OpenRequest) (outs : List Piece) (table : Table)
    (n : ℕ) (status : NtStatus) (informed : ℕ) (bytes : List ℕ) (ready : Ready rules asked cells sp (Seen (Told (Answer n status informed bytes)) ∷ ss) arrays next piece requests outs table)
    (caught : (i : ℕ) → IsCaughtUp (cells i).rest) (space : length outs < depth) (bound : IsBound status) (a : Asked) (waits : slice_get asked n ≡ Some (Some a)) (fits : ends a status informed (length bytes) ≡ true) where
  abbrev e : Event
  e = Seen (Told (Answer n status informed bytes))

  shared : IsShared e
  shared = record { plain = λ past. refl; shares = λ past. refl; no_effect = λ m sector f. cc (f) }

  abbrev held : ℕ → Held
  held = helds rules asked cells sp ss arrays next piece requests outs table e ready caught shared

  t : (i : ℕ) → IsAnswer rules i (cells i).past (cells i).held n status bytes (held i)
  t i = takes rules asked cells sp ss arrays next piece requests outs table e ready caught shared i

  abbrev after : Cells
  after = seen_cells e held cells

  asks : (q : ClientRequest) × IsOpenHere requests n q × (asked_of q ≡ a)
  asks = ready.awaited n a waits

  found : IsFound requests n asks.0
  found = find_open requests n asks.0 asks.1

  abbrev o : OpenRequest
  o = found.found

  abbrev others : List OpenRequest
  others = found.others

  mine : Track rules cells outs sp (e ∷ ss) o
  mine = All-head (Track rules cells outs sp (e ∷ ss)) o others (All-permutation (Track rules cells outs sp (e ∷ ss)) _ _ found.is_open ready.tracked)

  others_before : All (Track rules cells outs sp (e ∷ ss)) others
  others_before = All-tail (Track rules cells outs sp (e ∷ ss)) o others (All-permutation (Track rules cells outs sp (e ∷ ss)) _ _ found.is_open ready.tracked)

  differ : All (λ x. x.number ≢ n) others
  differ = subst (λ m. All (λ x. x.number ≢ m) others) found.is_number (distinct_first request_number requests o others ready.distinct.requests found.is_open)

  -- it is what the request was bound for
  is_ending : ending o.number (labels_till (e ∷ ss)) ≡ status
  is_ending = own_ending n o.number status informed bytes (labels_till ss) found.is_number ∙ usable_is status (ends_how a status informed (length bytes) fits)

  suits : (k : ℕ) → k < length o.marks → Suits status sp o k (mark_at o k)
  suits k low = subst (λ s. Suits s sp o k (mark_at o k)) is_ending (mine.suits k low)

  asked_kind : a ≡ asked_of o.request
  asked_kind = sym asks.2 ∙ ap asked_of (sym found.is_request)

  same : (i : ℕ) → o.request ≡ (t i).request
  same i = mine.named (t i).request (subst (λ m. Contains sp (Seen (Told (Call m (t i).request)))) (sym found.is_number)
      (subst (λ xs. Contains xs (Seen (Told (Call n (t i).request)))) (ready.courses i).past_shared (shared_seen (cells i).past (Told (Call n (t i).request)) (t i).is_open.called)))

  held_is : (i : ℕ) → held i ≡ answered next n o.request.kind status (cells i).held
  held_is i = (t i).after ∙ ap (λ m. answered m n (t i).request.kind status (cells i).held) (ready.courses i).number ∙ ap (λ q. answered next n q.kind status (cells i).held) (sym (same i))

  -- nothing changes, but where a flush succeeds
  held_same : ((o.request.kind ≡ Flush) → (status ≡ Success) → ⊥) → (i : ℕ) → held i ≡ (cells i).held
  held_same never i = held_is i ∙ plain o.request.kind status never
    where
      plain : (kind : Kind) (status : NtStatus) → (kind ≡ Flush → status ≡ Success → ⊥) → answered next n kind status (cells i).held ≡ (cells i).held
      plain Flush Success never = absurd (never refl refl)
      plain Flush _ never = refl
      plain Read status never = refl
      plain Write status never = refl

  taken : IsTaken rules o.request
  taken = admitted rules o.request mine.taken

  -- THE REQUEST ENDS

  -- once its places have ended
  record Ended : Type 1 where
    o' : OpenRequest
    requests' : List OpenRequest
    piece' : ℕ
    outs' : List Piece
    table' : Table
    goes : Goes (storing rules depth) (moment (standing arrays next piece requests outs) table) [] (moment (standing arrays next piece' requests' outs') table')
    is_open : IsPermutation requests' (o' ∷ others)
    is_number : o'.number ≡ n
    ended : All (HasEnded (storing rules depth) (standing arrays next piece' requests' outs') o') o'.marks
    success : (status ≡ Success) ↔ IsTrue (list_all is_done o'.marks)
    cause : HasCause (storing rules depth) (standing arrays next piece' requests' outs') o' o'.marks status
    hands_back : bytes ≡ answer_bytes o'.request.kind o'.marks
    informs : informed ≡ information o'.request status
    has : (i : ℕ) → Has outs' (table' i) (held i)
    others_out : (x : OpenRequest) → x.number ≢ n → IsOutFlush outs x → IsOutFlush outs' x
    fewer : (Q : Piece → Type 0) → All Q outs → All Q outs'
    short : length outs' ≤ length outs

  others_seen : (outs' : List Piece) → ((x : OpenRequest) → x.number ≢ n → IsOutFlush outs x → IsOutFlush outs' x) → All (Track rules after outs' (e ∷ sp) ss) others
  others_seen outs' out j d low =
      let x : OpenRequest = get_or others j d in
      let other : x.number ≢ n = differ j d low in
      seen_track rules cells e held outs outs' sp shared (ending x.number (labels_till ss)) x (λ q f. cc (f)) (out x other)
      (subst (λ s. IsTracked rules cells outs sp s x) (other_ending n x.number status informed bytes (labels_till ss) (λ f. other (sym f))) (others_before j d low))

  among_others : (m : ℕ) (r : ClientRequest) → m ≢ n → IsOpenHere requests m r → IsOpenHere others m r
  among_others m r other (x, there, number, request) = by_place (Contains-permutation requests (o ∷ others) x found.is_open there)
    where
      by_place : Contains (o ∷ others) x → IsOpenHere others m r
      by_place (zero, low, is) = let here : o ≡ x = is in absurd (other (sym number ∙ ap (λ (y : OpenRequest). y.number) (sym here) ∙ found.is_number))
      by_place (suc j, low, is) = (x, (j, omega arith, is), number, request)

  passes : Ended → Passes rules depth (set asked n None) (e ∷ sp) ss (Told (Answer n status informed bytes) ∷ []) arrays next piece requests outs table
  passes d = record {
    cells' = after;
    next' = next;
    piece' = d.piece';
    requests' = others;
    outs' = d.outs';
    table' = d.table';
    goes = all;
    ready = record {
      count = ready.count ∙ sym (length-set asked n None);
      distinct = seen_distinct (storing rules depth) (moment (standing arrays next piece requests outs) table) (moment (standing arrays next d.piece' others d.outs') d.table') (Told (Answer n status informed bytes) ∷ [])
          (told_one (Answer n status informed bytes)) ready.distinct all;
      tracked = others_seen d.outs' d.others_out;
      courses = seen_courses rules asked cells sp ss arrays next piece requests outs table e ready caught shared next d.outs' d.table' (omega arith)
          (let low : n < length asked = slice_get_within asked n (Some a) waits in let c = ready.count in omega arith) (λ past number. number) d.has;
      opens = λ m r called awaits taken'.
          let other : n ≢ m = All-head (IsNoAnswer m) e sp awaits in
          among_others m r (λ f. other (sym f)) (ready.opens m r (behind_first e (Seen (Told (Call m r))) sp (λ f. cc (f)) called) (All-tail (IsNoAnswer m) e sp awaits) taken');
      awaited = λ m b there. let kept : (m ≢ n) × (slice_get asked m ≡ Some (Some b)) = set_none asked n m b there in let w = ready.awaited m b kept.1 in
          (w.0, among_others m w.0 kept.0 w.1, w.2);
      owners = d.fewer (λ p. p.owner < next) ready.owners;
    };
    space = let s = d.short in omega arith;
  }
    where
      step : LineStep (storing rules depth) (moment (standing arrays next d.piece' d.requests' d.outs') d.table') (Told (Answer n status informed bytes)) (moment (standing arrays next d.piece' others d.outs') d.table')
      step = (
        inl (
          refl,
          record {
            answers = record {
              request = d.o';
              others = others;
              is_open = d.is_open;
              is_number = d.is_number;
              ended = d.ended;
              success = d.success;
              cause = d.cause;
              hands_back = d.hands_back;
              after = IsSame-refl _;
            };
            informs = d.informs;
          },
        ),
        λ i. refl,
      )

      all : Goes (storing rules depth) (moment (standing arrays next piece requests outs) table) (Told (Answer n status informed bytes) ∷ []) (moment (standing arrays next d.piece' others d.outs') d.table')
      all =
          goes_then (storing rules depth) (moment (standing arrays next piece requests outs) table) (moment (standing arrays next d.piece' d.requests' d.outs') d.table') (moment (standing arrays next d.piece' others d.outs') d.table')
          [] (Told (Answer n status informed bytes) ∷ []) d.goes
          (goes_line (storing rules depth) (moment (standing arrays next d.piece' d.requests' d.outs') d.table') (moment (standing arrays next d.piece' others d.outs') d.table') (Told (Answer n status informed bytes)) tt refl step)

  in_turn : (o' : OpenRequest) (requests' : List OpenRequest) → IsPermutation requests' (o' ∷ others) → All (IsInTurn o') requests'
  in_turn o' requests' perm =
      All-permutation (IsInTurn o') _ _ (IsPermutation-sym _ _ perm)
      (All-cons (IsInTurn o') o' others (λ lower waits. absurd (omega arith)) (All-weaker (Track rules cells outs sp (e ∷ ss)) (IsInTurn o') (λ x tr lower waits. tr.started) others others_before))

  -- IT FAILS

  module _ (by : FailsBy status) where
    failed_same : (i : ℕ) → held i ≡ (cells i).held
    failed_same = held_same (λ flush success. by.fails success)

    told : (informed ≡ 0) × (length bytes ≡ 0)
    told = ends_badly a status informed (length bytes) by.fails fits

    -- all its places failed
    failed_so : (o' : OpenRequest) (requests' : List OpenRequest) (piece' : ℕ) (outs' : List Piece) (table' : Table)
        → Goes (storing rules depth) (moment (standing arrays next piece requests outs) table) [] (moment (standing arrays next piece' requests' outs') table') → IsPermutation requests' (o' ∷ others)
        → o'.number ≡ n → length o'.marks ≡ place_count rules o.request → ((k : ℕ) → k < place_count rules o.request → mark_at o' k ≡ Failed status) → ((i : ℕ) → Has outs' (table' i) (cells i).held)
        → ((x : OpenRequest) → x.number ≢ n → IsOutFlush outs x → IsOutFlush outs' x) → ((Q : Piece → Type 0) → All Q outs → All Q outs') → length outs' ≤ length outs → Ended
    failed_so o' requests' piece' outs' table' goes is_open is_number long failed has out fewer short = record {
      o' = o';
      requests' = requests';
      piece' = piece';
      outs' = outs';
      table' = table';
      goes = goes;
      is_open = is_open;
      is_number = is_number;
      ended = λ k d low. subst (HasEnded (storing rules depth) (standing arrays next piece' requests' outs') o') (sym (get_or_default o'.marks k d Untouched low ∙ failed k (rw (← long) low))) (inr (status, refl));
      success = (λ s. absurd (by.fails s), λ s. cc (none_done, s));
      cause = cause_of_first (storing rules depth) (standing arrays next piece' requests' outs') o' o'.marks status some (failed 0 taken.some);
      hands_back = empty bytes told.1 ∙ no_bytes o'.request.kind o'.marks none_done;
      informs = told.0 ∙ none_informed o'.request status by.fails;
      has = λ i. subst (Has outs' (table' i)) (sym (failed_same i)) (has i);
      others_out = out;
      fewer = fewer;
      short = short;
    }
      where
        some : 0 < length o'.marks
        some = rw long taken.some

        none_done : list_all is_done o'.marks ≡ false
        none_done = first_not_done o'.marks status some (failed 0 taken.some)

    -- the places before this one have failed
    record Fails (j : ℕ) : Type 0 where
      o' : OpenRequest
      requests' : List OpenRequest
      piece' : ℕ
      table' : Table
      goes : Goes (storing rules depth) (moment (standing arrays next piece requests outs) table) [] (moment (standing arrays next piece' requests' outs) table')
      is_open : IsPermutation requests' (o' ∷ others)
      is_number : o'.number ≡ n
      is_request : o'.request ≡ o.request
      not_cancelled : o'.cancelled ≡ false
      long : length o'.marks ≡ place_count rules o.request
      suit : (k : ℕ) → k < length o'.marks → Suits status sp o k (mark_at o' k)
      failed : (k : ℕ) → k < j → mark_at o' k ≡ Failed status
      rest : (k : ℕ) → j ≤ k → mark_at o' k ≡ mark_at o k
      has : (i : ℕ) → Has outs (table' i) (cells i).held

    fail_places : ((k : ℕ) → k < length o.marks → mark_at o k ≡ Out → ⊥) → (j : ℕ) → j ≤ place_count rules o.request → Fails j
    fail_places no_out zero most = record {
      o' = o;
      requests' = requests;
      piece' = piece;
      table' = table;
      goes = goes_nowhere (storing rules depth) (moment (standing arrays next piece requests outs) table);
      is_open = found.is_open;
      is_number = found.is_number;
      is_request = refl;
      not_cancelled = mine.waits;
      long = mine.places;
      suit = suits;
      failed = λ k low. absurd (omega arith);
      rest = λ k from. refl;
      has = λ i. (ready.courses i).has;
    }
    fail_places no_out (suc j) most = by_mark (fail_places no_out j (omega arith))
      where
        by_mark : Fails j → Fails (suc j)
        by_mark f = at_mark (mark_at f.o' j) refl (f.suit j inside)
          where
            inside : j < length f.o'.marks
            inside = rw f.long (omega arith)

            more : (o'' : OpenRequest) → mark_at o'' j ≡ Failed status → ((k : ℕ) → k ≢ j → mark_at o'' k ≡ mark_at f.o' k) → (k : ℕ) → k < suc j → mark_at o'' k ≡ Failed status
            more o'' here elsewhere k low = elim (cases_eq k j) [
              | inl is ↦ ap (λ m. mark_at o'' m) is ∙ here
              | inr other ↦ elsewhere k other ∙ f.failed k (omega arith)
            ]

            sends : IsUnsent (mark_at f.o' j) → Fails (suc j)
            sends unsent =
                let free : (tag : ℕ) × IsLowestFreeTag depth outs tag = lowest_free depth outs space in
                let block : BlockOf (command_for (storing rules depth) f.o'.request (one_place j) f.o'.request.kind) =
                block_at rules f.o'.request j room (ap (refused rules) f.is_request ∙ mine.taken) (rw f.is_request (omega arith)) in
                record {
                  o' = remarked j (Bad by.completion) (Failed (status_of_completion by.completion)) f.o';
                  requests' = remarked j (Bad by.completion) (Failed (status_of_completion by.completion)) f.o' ∷ others;
                  piece' = f.piece' + 1;
                  table' = failed_table rules depth arrays next f.piece' f.requests' others outs f.table' f.o' j free.0 f.is_open (in_turn f.o' f.requests' f.is_open) f.not_cancelled inside unsent free.1 block;
                  goes = goes_then (storing rules depth) (moment (standing arrays next piece requests outs) table) (moment (standing arrays next f.piece' f.requests' outs) f.table')
                      (moment (standing arrays next (f.piece' + 1) (remarked j (Bad by.completion) (Failed (status_of_completion by.completion)) f.o' ∷ others) outs)
                      (failed_table rules depth arrays next f.piece' f.requests' others outs f.table' f.o' j free.0 f.is_open (in_turn f.o' f.requests' f.is_open) f.not_cancelled inside unsent free.1 block)) [] [] f.goes
                      (fails rules depth arrays next f.piece' f.requests' others outs f.table' f.o' j free.0 f.is_open (in_turn f.o' f.requests' f.is_open) f.not_cancelled inside unsent free.1 block
                      (Bad by.completion) (Failed (status_of_completion by.completion)) (by.is_bad, refl));
                  is_open = IsPermutation-refl _;
                  is_number = f.is_number;
                  is_request = f.is_request;
                  not_cancelled = f.not_cancelled;
                  long = remarked_length j (Bad by.completion) (Failed (status_of_completion by.completion)) f.o' inside ∙ f.long;
                  suit = λ k low. suit k (rw (remarked_length j (Bad by.completion) (Failed (status_of_completion by.completion)) f.o' inside) at low);
                  failed = more (remarked j (Bad by.completion) (Failed (status_of_completion by.completion)) f.o') here (λ k other. elsewhere k other);
                  rest = λ k from. elsewhere k (λ is. absurd (omega arith)) ∙ f.rest k (omega arith);
                  has = λ i. has_grown outs (f.piece' + 1) (fault_changes rules.sector_size (work_of (storing rules depth) f.o'.request (one_place j)) i) (f.table' i) (cells i).held
                      (fault_fails (storing rules depth) i f.o'.request (one_place j)) (f.has i);
                }
              where
                here : mark_at (remarked j (Bad by.completion) (Failed (status_of_completion by.completion)) f.o') j ≡ Failed status
                here = remarked_there j (Bad by.completion) (Failed (status_of_completion by.completion)) f.o' inside ∙ ap Failed by.is_status

                elsewhere : (k : ℕ) → k ≢ j → mark_at (remarked j (Bad by.completion) (Failed (status_of_completion by.completion)) f.o') k ≡ mark_at f.o' k
                elsewhere k other = remarked_elsewhere j (Bad by.completion) (Failed (status_of_completion by.completion)) f.o' inside k other

                suit : (k : ℕ) → k < length f.o'.marks → Suits status sp o k (mark_at (remarked j (Bad by.completion) (Failed (status_of_completion by.completion)) f.o') k)
                suit k low = elim (cases_eq k j) [
                  | inl is ↦ subst (Suits status sp o k) (sym (ap (λ m. mark_at (remarked j (Bad by.completion) (Failed (status_of_completion by.completion)) f.o') m) is ∙ here)) (inl (refl, by.fails))
                  | inr other ↦ subst (Suits status sp o k) (sym (elsewhere k other)) (f.suit k low)
                ]

            was : (failure : NtStatus) → Suits status sp o j (Failed failure) → failure ≡ status
            was failure (inl h) = h.0
            was failure (inr h) = absurd (by.fails h.0)

            at_mark : (mark : Mark) → mark_at f.o' j ≡ mark → Suits status sp o j (mark_at f.o' j) → Fails (suc j)
            at_mark Untouched is fit = sends (ap is_unsent is)
            at_mark Back is fit = sends (ap is_unsent is)
            at_mark (Failed failure) is fit = record {
              o' = f.o';
              requests' = f.requests';
              piece' = f.piece';
              table' = f.table';
              goes = f.goes;
              is_open = f.is_open;
              is_number = f.is_number;
              is_request = f.is_request;
              not_cancelled = f.not_cancelled;
              long = f.long;
              suit = f.suit;
              failed = more f.o' (is ∙ ap Failed (was failure (subst (Suits status sp o j) is fit))) (λ k other. refl);
              rest = λ k from. f.rest k (omega arith);
              has = f.has;
            }
            at_mark (Done sector) is fit = let s : status ≡ Success = subst (Suits status sp o j) is fit in absurd (by.fails s)
            at_mark Out is fit = absurd (no_out j (rw mine.places (omega arith)) (sym (f.rest j (omega arith)) ∙ is))

    transfer_fails : ((k : ℕ) → k < length o.marks → mark_at o k ≡ Out → ⊥) → Ended
    transfer_fails no_out = ended (fail_places no_out (place_count rules o.request) (omega arith))
      where
        ended : Fails (place_count rules o.request) → Ended
        ended f = failed_so f.o' f.requests' f.piece' outs f.table' f.goes f.is_open f.is_number f.long f.failed f.has (λ x other g. g) (λ Q all. all) (omega arith)

    flush_fails_so : o.request.kind ≡ Flush → Ended
    flush_fails_so flush = at_mark (mark_at o 0) refl (suits 0 some)
      where
        one : place_count rules o.request ≡ 1
        one = flush_places rules o.request flush

        some : 0 < length o.marks
        some = rw mine.places taken.some

        only : (P : ℕ → Type 0) → P 0 → (k : ℕ) → k < place_count rules o.request → P k
        only P first k low = let c = one in let none : 0 ≡ k = omega arith in subst P none first

        was : (failure : NtStatus) → Suits status sp o 0 (Failed failure) → failure ≡ status
        was failure (inl h) = h.0
        was failure (inr h) = absurd (by.fails h.0)

        never : (mark : Mark) → mark_at o 0 ≡ mark → (mark ≡ Out → ⊥) → (k : ℕ) → k < length o.marks → mark_at o k ≡ Out → ⊥
        never mark is other k low out =
            let c = one in let p = mine.places in let none : k ≡ 0 = omega arith in other (sym is ∙ ap (λ m. mark_at o m) (sym none) ∙ out)

        -- its piece is out still
        waits_yet : IsOutFlush outs o → Ended
        waits_yet f =
            let low : 0 < length o.marks = some in
            let out : (rest : List Piece) × IsPermutation outs (flush_piece f.number f.tag o.number ∷ rest) = taken_out outs (flush_piece f.number f.tag o.number) f.is_out in
            failed_so (given_back (flush_piece f.number f.tag o.number) (Bad by.completion) (Failed (status_of_completion by.completion) ∷ []) o)
            (given_back (flush_piece f.number f.tag o.number) (Bad by.completion) (Failed (status_of_completion by.completion) ∷ []) o ∷ others) piece out.0
            (λ i. changed_by piece (fault_changes rules.sector_size (work_of (storing rules depth) o.request (one_place 0)) i) (table i))
            (flush_fails rules depth arrays next piece requests others outs out.0 table o (flush_piece f.number f.tag o.number) found.is_open out.1 refl refl (Bad by.completion)
            (Failed (status_of_completion by.completion) ∷ []) (by.is_bad, refl))
            (IsPermutation-refl _) found.is_number (length-splice o.marks 0 (Failed (status_of_completion by.completion) ∷ []) (omega arith) ∙ mine.places)
            (only (λ k. get_or (splice o.marks 0 (Failed (status_of_completion by.completion) ∷ [])) k Untouched ≡ Failed status)
            (get_or-splice_inside o.marks 0 (Failed (status_of_completion by.completion) ∷ []) 0 Untouched (omega arith) (omega arith) (omega arith) ∙ ap Failed by.is_status))
            (λ i. has_grown out.0 piece (fault_changes rules.sector_size (work_of (storing rules depth) o.request (one_place 0)) i) (table i) (cells i).held (fault_fails (storing rules depth) i o.request (one_place 0))
            (has_fewer outs out.0 (λ Q all. All-tail Q (flush_piece f.number f.tag o.number) out.0 (All-permutation Q _ _ out.1 all)) (table i) (cells i).held (ready.courses i).has))
            (λ x other g. other_flush outs out.0 f.number f.tag o.number out.1 x (λ is. other (is ∙ found.is_number)) g)
            (λ Q all. All-tail Q (flush_piece f.number f.tag o.number) out.0 (All-permutation Q _ _ out.1 all))
            (let long : suc (length out.0) ≡ length outs = length_permutation outs (flush_piece f.number f.tag o.number ∷ out.0) out.1 in omega arith)

        at_mark : (mark : Mark) → mark_at o 0 ≡ mark → Suits status sp o 0 (mark_at o 0) → Ended
        at_mark Out is fit = waits_yet (mine.waiting flush is)
        at_mark (Failed failure) is fit =
            failed_so o requests piece outs table (goes_nowhere (storing rules depth) (moment (standing arrays next piece requests outs) table)) found.is_open found.is_number mine.places
            (only (λ k. mark_at o k ≡ Failed status) (is ∙ ap Failed (was failure (subst (Suits status sp o 0) is fit)))) (λ i. (ready.courses i).has) (λ x other g. g) (λ Q all. all) (omega arith)
        at_mark (Done sector) is fit = let s : status ≡ Success = subst (Suits status sp o 0) is fit in absurd (by.fails s)
        at_mark Untouched is fit = transfer_fails (never Untouched is (λ f. cc (f)))
        at_mark Back is fit = transfer_fails (never Back is (λ f. cc (f)))

    fails_so : Ended
    fails_so = by_kind o.request.kind refl
      where
        no_out : (o.request.kind ≡ Flush → ⊥) → (k : ℕ) → k < length o.marks → mark_at o k ≡ Out → ⊥
        no_out other k low is = other (subst (Suits status sp o k) is (suits k low))

        by_kind : (kind : Kind) → o.request.kind ≡ kind → Ended
        by_kind Read is = transfer_fails (no_out (λ f. cc (is, f)))
        by_kind Write is = transfer_fails (no_out (λ f. cc (is, f)))
        by_kind Flush is = flush_fails_so is

  -- IT SUCCEEDS

  module _ (success : status ≡ Success) where
    told_well : (informed ≡ informed_of a) × (length bytes ≡ brought a.kind a.length)
    told_well = ends_well a informed (length bytes) (subst (λ s. ends a s informed (length bytes) ≡ true) success fits)

    informs : informed ≡ information o.request status
    informs = told_well.0 ∙ ap informed_of asked_kind ∙ ap (information o.request) (sym success)

    -- a place of a transfer took effect
    record IsDoneAt (k : ℕ) : Type 0 where
      sector : List ℕ
      is_there : mark_at o k ≡ Done sector
      hands_over : o.request.kind ≡ Read → part_of rules bytes k ≡ sector

    -- a read's bytes are those of its places
    read_long : o.request.kind ≡ Read → length bytes ≡ place_count rules o.request * rules.sector_size
    read_long read = told_well.1 ∙ ap (λ b. brought b.kind b.length) asked_kind ∙ ap (λ kind. brought kind o.request.length) read ∙ sym (taken.whole (ap is_transfer read))

    done_at : is_transfer o.request.kind ≡ true → (k : ℕ) → k < place_count rules o.request → IsDoneAt k
    done_at transfer k low =
        let at : IsAt rules (sector_of rules o.request k) o.request k =
        record { admitted = record { known = ap is_none taken.known; in_bounds = taken.in_bounds }; transfer = transfer; sector = refl; inside = low } in
        let took : TookEffect rules (cells (sector_of rules o.request k)).past n (t (sector_of rules o.request k)).request k bytes =
        (t (sector_of rules o.request k)).effect success k (subst (λ q. IsAt rules (sector_of rules o.request k) q k) (same (sector_of rules o.request k)) at) in
        let hands : o.request.kind ≡ Read → part_of rules bytes k ≡ took.sector = λ read. took.hands_over (ap (λ q. q.kind) (sym (same (sector_of rules o.request k))) ∙ read) in
        let place : IsAtPlace rules (sector_of rules o.request k) (cells (sector_of rules o.request k)).past (ending o.number (labels_till (e ∷ ss))) o k = mine.at_places (sector_of rules o.request k) k at in
        record {
          sector = took.sector;
          is_there = place.done (is_ending ∙ success) took.sector (subst (λ m. Contains (cells (sector_of rules o.request k)).past (Effect m took.sector)) (sym found.is_number) took.before)
              (λ read. ap length (sym (hands read)) ∙ part_length bytes k (place_count rules o.request) rules.sector_size low (read_long read));
          hands_over = hands;
        }

    -- all places are done
    well : (o' : OpenRequest) (requests' : List OpenRequest) (outs' : List Piece) (table' : Table) → Goes (storing rules depth) (moment (standing arrays next piece requests outs) table) [] (moment (standing arrays next piece requests' outs') table')
        → IsPermutation requests' (o' ∷ others) → o'.number ≡ n → o'.request ≡ o.request → ((k : ℕ) → k < length o'.marks → is_done (mark_at o' k) ≡ true) → bytes ≡ answer_bytes o'.request.kind o'.marks
        → ((i : ℕ) → Has outs' (table' i) (held i)) → ((x : OpenRequest) → x.number ≢ n → IsOutFlush outs x → IsOutFlush outs' x) → ((Q : Piece → Type 0) → All Q outs → All Q outs') → length outs' ≤ length outs → Ended
    well o' requests' outs' table' goes is_open is_number is_request done hands has out fewer short = record {
      o' = o';
      requests' = requests';
      piece' = piece;
      outs' = outs';
      table' = table';
      goes = goes;
      is_open = is_open;
      is_number = is_number;
      ended = λ k x low. inl (ap is_done (get_or_default o'.marks k x Untouched low) ∙ done k low);
      success = (λ s. all, λ s. success);
      cause = cause_of_done (storing rules depth) (standing arrays next piece requests' outs') o' o'.marks status all;
      hands_back = hands;
      informs = informs ∙ ap (λ q. information q status) (sym is_request);
      has = has;
      others_out = out;
      fewer = fewer;
      short = short;
    }
      where
        all : list_all is_done o'.marks ≡ true
        all = all_done o'.marks done

    no_write_bytes : (kind : Kind) → o.request.kind ≡ kind → brought kind o.request.length ≡ 0 → bytes ≡ []
    no_write_bytes kind is none = empty bytes (told_well.1 ∙ ap (λ b. brought b.kind b.length) asked_kind ∙ ap (λ k. brought k o.request.length) is ∙ none)

    transfer_done : is_transfer o.request.kind ≡ true → (o.request.kind ≡ Flush → ⊥) → bytes ≡ answer_bytes o.request.kind o.marks → Ended
    transfer_done transfer no_flush hands =
        well o requests outs table (goes_nowhere (storing rules depth) (moment (standing arrays next piece requests outs) table)) found.is_open found.is_number refl
        (λ k low. let d : IsDoneAt k = done_at transfer k (rw mine.places at low) in ap is_done d.is_there) hands
        (λ i. subst (Has outs (table i)) (sym (held_same (λ flush s. no_flush flush) i)) (ready.courses i).has) (λ x other g. g) (λ Q all. all) (omega arith)

    read_back : o.request.kind ≡ Read → bytes ≡ answer_bytes o.request.kind o.marks
    read_back read =
        let all : list_all is_done o.marks ≡ true = all_done o.marks (λ k low. let d : IsDoneAt k = done_at (ap is_transfer read) k (rw mine.places at low) in ap is_done d.is_there) in
        rw (read, all) (sym (joins rules o.marks bytes (read_long read ∙ ap (λ m. m * rules.sector_size) (sym mine.places))
        (λ k low. let d : IsDoneAt k = done_at (ap is_transfer read) k (rw mine.places at low) in d.is_there ∙ ap Done (sym (d.hands_over read)))))

    flush_done : o.request.kind ≡ Flush → Ended
    flush_done flush =
        let f : IsOutFlush outs o = mine.flushes flush unfailed in
        let out : (rest : List Piece) × IsPermutation outs (flush_piece f.number f.tag o.number ∷ rest) = taken_out outs (flush_piece f.number f.tag o.number) f.is_out in
        well (given_back (flush_piece f.number f.tag o.number) Good (Done [] ∷ []) o) (given_back (flush_piece f.number f.tag o.number) Good (Done [] ∷ []) o ∷ others) out.0
        (λ i. changed_by piece (act_changes rules.sector_size f.number (work_of (storing rules depth) o.request (one_place 0)) i) (table i))
        (flush_acts rules depth arrays next piece requests others outs out.0 table o (flush_piece f.number f.tag o.number) found.is_open out.1 refl refl Good (Done [] ∷ []) refl
        (subst (λ kind. Transfers (storing rules depth) (standing arrays next piece requests outs) o.request (one_place 0) kind ([] ∷ []) arrays) (sym flush) (refl, refl))
        (subst (λ kind. HandsOver rules.sector_size table (work_of (storing rules depth) o.request (one_place 0)).extent kind (concat ([] ∷ []))) (sym flush) tt) ([] ∷ [], refl, refl))
        (IsPermutation-refl _) found.is_number refl done (no_write_bytes Flush flush refl ∙ ap (λ kind. answer_bytes kind (given_back (flush_piece f.number f.tag o.number) Good (Done [] ∷ []) o).marks) (sym flush))
        (λ i. synced i f out)
        (λ x other g. other_flush outs out.0 f.number f.tag o.number out.1 x (λ is. other (is ∙ found.is_number)) g)
        (λ Q all. All-tail Q (flush_piece f.number f.tag o.number) out.0 (All-permutation Q _ _ out.1 all))
        (let long : suc (length out.0) ≡ length outs = length_permutation outs (flush_piece f.number f.tag o.number ∷ out.0) out.1 in omega arith)
      where
        one : length o.marks ≡ 1
        one = mine.places ∙ flush_places rules o.request flush

        done : (k : ℕ) → k < length (splice o.marks 0 (Done [] ∷ [])) → is_done (get_or (splice o.marks 0 (Done [] ∷ [])) k Untouched) ≡ true
        done k low =
            let c = one in
            let long : length (splice o.marks 0 (Done [] ∷ [])) ≡ length o.marks = length-splice o.marks 0 (Done [] ∷ []) (omega arith) in
            let none : 0 ≡ k = omega arith in
            subst (λ m. is_done (get_or (splice o.marks 0 (Done [] ∷ [])) m Untouched) ≡ true) none (ap is_done (get_or-splice_inside o.marks 0 (Done [] ∷ []) 0 Untouched (omega arith) (omega arith) (omega arith)))

        unfailed : All (IsNoFailure o.number 0) sp
        unfailed = subst (λ m. All (IsNoFailure m 0) sp) (sym found.is_number) (subst (All (IsNoFailure n 0)) (ready.courses 0).past_shared
            (all_shared (IsNoFailure n 0) (cells 0).past ((t 0).sound success 0 (subst (λ q. 0 < place_count rules q) (same 0) taken.some))))

        held_synced : (i : ℕ) → held i ≡ changed next (Syncs o.number) (cells i).held
        held_synced i = held_is i ∙ ap (λ kind. answered next n kind status (cells i).held) flush ∙ ap (λ s. answered next n Flush s (cells i).held) success ∙ ap (λ m. changed next (Syncs m) (cells i).held) (sym found.is_number)

        synced : (i : ℕ) (f : IsOutFlush outs o) (out : (rest : List Piece) × IsPermutation outs (flush_piece f.number f.tag o.number ∷ rest))
            → Has out.0 (changed_by piece (act_changes rules.sector_size f.number (work_of (storing rules depth) o.request (one_place 0)) i) (table i)) (held i)
        synced i f out =
            subst (λ changes. Has out.0 (changed_by piece changes (table i)) (held i)) (sym (flush_act (storing rules depth) i o.request (one_place 0) f.number flush))
            (subst (Has out.0 (changed piece (Syncs f.number) (table i))) (sym (held_synced i))
            (has_fewer outs out.0 (λ Q all. All-tail Q (flush_piece f.number f.tag o.number) out.0 (All-permutation Q _ _ out.1 all)) (changed piece (Syncs f.number) (table i)) (changed next (Syncs o.number) (cells i).held)
            (has_synced outs piece next (flush_piece f.number f.tag o.number) (table i) (cells i).held f.is_out (ready.courses i).has)))

    succeeds : Ended
    succeeds = by_kind o.request.kind refl
      where
        by_kind : (kind : Kind) → o.request.kind ≡ kind → Ended
        by_kind Read is = transfer_done (ap is_transfer is) (λ f. cc (is, f)) (read_back is)
        by_kind Write is = transfer_done (ap is_transfer is) (λ f. cc (is, f)) (no_write_bytes Write is refl ∙ ap (λ kind. answer_bytes kind o.marks) (sym is))
        by_kind Flush is = flush_done is

  pub answer_passes : Passes rules depth (set asked n None) (e ∷ sp) ss (Told (Answer n status informed bytes) ∷ []) arrays next piece requests outs table
  answer_passes = elim bound [ inl success ↦ passes (succeeds success) | inr by ↦ passes (fails_so by) ]
