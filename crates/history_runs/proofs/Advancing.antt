-- One effect of one sector is carried out.
use Rattle.std.proofs.Common.{◌≡◌, ◌≢◌, ◌<◌, inl, inr, ℕ, zero, suc, ◌+◌, ◌-◌, ◌*◌, ◌/◌, ◌==◌, ◌&&◌, Bool, true, false, not, List, [], ◌∷◌, Option, Some, None, refl, sym, ◌∙◌, ap, subst, arith, length, get_or, length-take, length-drop}
use Rattle.std.specs.Prelude.{All, Contains, is_none, unwrap_or, slice_get, slice_set, slice_range, if◌then◌else◌}
use Rattle.std.proofs.Math.Nat.{zero-div}
use Rattle.std.proofs.lemmas.Bool.{cases_eq}
use Rattle.std.proofs.lemmas.Bool.Decides.{nat_tests}
use Rattle.std.proofs.lemmas.List.{append-nil}
use Rattle.std.proofs.lemmas.List.Sorted.{IsPermutation-sym, All-permutation}
use Rattle.std.proofs.lemmas.List.Elements.{All-nil, All-cons, All-head, All-tail, All-contains, All-weaker}
use Rattle.ntstatus.specs.declared.NtStatus.{NtStatus}
use Rattle.ntstatus.specs.declared.NtStatus.TheVariants.{Success, DeviceBusy, InvalidHandle, InvalidParameter}
use Rattle.ntstatus.specs.First.{when, first_some}
use Rattle.sector.specs.Extents.{IsSector}
use Rattle.sector.specs.Splice.{splice}
use Rattle.srb.specs.declared.Kind.{Kind}
use Rattle.srb.specs.declared.Kind.TheVariants.{Read, Write, Flush}
use Rattle.srb.specs.declared.Class.{Class}
use Rattle.srb.specs.declared.Class.TheVariants.{Good, Bad}
use Rattle.srb.specs.Fate.{Acted}
use Rattle.machine.specs.declared.ClientRequest.{ClientRequest}
use Rattle.machine.specs.declared.Label.{Label}
use Rattle.machine.specs.declared.Label.TheVariants.{Call}
use Rattle.machine.specs.Rules.{Rules, is_transfer, is_in_bounds, sectors_of, place_count, first_sector}
use Rattle.machine.specs.State.{Mark, Done, Failed, OpenRequest}
use Rattle.machine.specs.Calling.{bytes_carried}
use Rattle.machine.specs.Cutting.{mark_at}
use Rattle.machine.specs.Sending.{IsUnsent, IsInTurn, is_untouched, partition_number, array_at, Transfers, LeavesMarks, command_for, status_of_completion}
use Rattle.machine.specs.Numbers.{request_number, AreDistinct}
use Rattle.machine.proofs.Permuting.{distinct_first}
use Rattle.machine.proofs.Numbers.{AreDistinct-Run}
use Rattle.machine_laws.specs.Sectors.{bytes_for}
use Rattle.history_laws.specs.declared.Asked.{Asked}
use Rattle.history_laws.specs.Schedules.{Event, Seen, Effect, labels_of, value_after, IsAt, IsNoEffect, IsNoAnswer, Moves, TakesEffect, MayFollow}
use Rattle.history_laws.specs.Fitting.{refused}
use Rattle.history_laws.proofs.Mirroring.{IsBelow}
use Rattle.history_runs.specs.Laws.{IsAddressable}
use Rattle.history_runs.proofs.Blocks.{BlockOf, one_place, block_for}
use Rattle.history_runs.proofs.Admitted.{served, IsAdmitted, admitted, addressed}
use Rattle.history_runs.proofs.Steps.{Goes, goes_nowhere, at_rest, remarked, carries_out}
use Rattle.history_runs.proofs.Marks.{remarked_length, remarked_there, remarked_elsewhere, started_at}
use Rattle.history_runs.proofs.Failing.{ending, IsEnding, ending_ends}
use Rattle.history_runs.proofs.Arrays.{one_of, put_sector, put_here, put_beside}
use Rattle.history_runs.proofs.Tracking.{Cell, Cells, put, put_by, IsSameSector, Suits, IsAtPlace, AreNamed, Spares, IsTracked, IsOpenHere, IsOnCourse, Ready, IsFound, find_open, still_open}

-- A PLACE OF A REQUEST

pub transfers_none : (kind : Kind) → is_transfer kind ≡ true → kind ≡ Flush → ⊥
transfers_none kind t e = let none : is_transfer kind ≡ false = ap is_transfer e in cc (t, none)

some_length : (size length' place : ℕ) → place < length' / size → (length' == 0) ≡ false
some_length size length' place low = by (length' == 0) refl
  where
    is_zero : (length' == 0) ≡ true → length' ≡ 0
    is_zero e = grind (arith, nat_tests)

    by : (b : Bool) → (length' == 0) ≡ b → (length' == 0) ≡ false
    by false e = e
    by true e = let none : length' / size ≡ 0 = ap (λ m. m / size) (is_zero e) ∙ zero-div size in absurd (omega arith)

-- a request with a place in a sector is not refused
pub at_taken : (rules : Rules) (p i : ℕ) (q : ClientRequest) (k : ℕ) → IsAt rules p i q k → refused rules q ≡ None
at_taken rules p i q k at =
    by_tests q.kind (is_none q.partition) (is_in_bounds rules q) (q.length == 0) at.transfer (ap is_none at.partition) at.in_bounds (some_length rules.sector_size q.length k (low q.kind at.transfer at.inside))
  where
    low : (kind : Kind) → is_transfer kind ≡ true → k < (if is_transfer kind then q.length / rules.sector_size else 1) → k < q.length / rules.sector_size
    low Read t h = h
    low Write t h = h
    low Flush t h = absurd (cc (t))

    by_tests : (kind : Kind) (unknown bounds empty : Bool) → is_transfer kind ≡ true → unknown ≡ false → bounds ≡ true → empty ≡ false
        → first_some (when unknown InvalidHandle ∷ when (is_transfer kind && not bounds) InvalidParameter ∷ when (is_transfer kind && empty) Success ∷ []) ≡ None
    by_tests kind unknown bounds empty t a b c = rw (t, a, b, c) refl

-- the bytes of one place are a sector's
pub part_length : (bytes : List ℕ) (k places size : ℕ) → k < places → length bytes ≡ places * size → length (slice_range bytes (k * size) ((k + 1) * size)) ≡ size
part_length bytes k places size low long = wide (places - suc k) (omega arith)
  where
    wide : (more : ℕ) → places ≡ suc k + more → length (slice_range bytes (k * size) ((k + 1) * size)) ≡ size
    wide more e = let long' : length bytes ≡ (suc k + more) * size = long ∙ ap (λ m. m * size) e in simp (length-take, length-drop) (omega arith)

-- HOW A PLACE COMES BACK

-- so that the request ends with this status
pub record Outcome (status : NtStatus) (sector : List ℕ) : Type 0 where
  pub class : Class
  pub mark : Mark
  pub leaves : (number tag owner place : ℕ) → LeavesMarks (record { number = number; tag = tag; owner = owner; places = one_place place; fate = Acted (sector ∷ []) }) class (mark ∷ [])
  pub suits : Suits status mark
  pub touched : is_untouched mark ≡ false
  pub done : status ≡ Success → mark ≡ Done sector

outcome : (status : NtStatus) (sector : List ℕ) → IsEnding status → Outcome status sector
outcome status sector (inl success) = record {
  class = Good;
  mark = Done sector;
  leaves = λ number tag owner place. (sector ∷ [], refl, refl);
  suits = inl success;
  touched = refl;
  done = λ e. refl;
}
outcome status sector (inr (inl busy)) = record {
  class = Good;
  mark = Done sector;
  leaves = λ number tag owner place. (sector ∷ [], refl, refl);
  suits = inr busy;
  touched = refl;
  done = λ e. refl;
}
outcome status sector (inr (inr f)) = record {
  class = Bad f.completion;
  mark = Failed (status_of_completion f.completion);
  leaves = λ number tag owner place. (f.is_bad, refl);
  suits = (f.is_status, f.fails, f.not_busy);
  touched = refl;
  done = λ e. absurd (f.fails e);
}

-- EVENTS

pub not_newest : (n : ℕ) (sector : List ℕ) (past : List Event) (label : Label) → Contains (Effect n sector ∷ past) (Seen label) → Contains past (Seen label)
not_newest n sector past label (zero, low, is) = cc (is)
not_newest n sector past label (suc k, low, is) = (k, omega arith, is)

pub of_another : (n m : ℕ) (sector sector' : List ℕ) (past : List Event) → n ≢ m → Contains (Effect n sector ∷ past) (Effect m sector') → Contains past (Effect m sector')
of_another n m sector sector' past other (zero, low, is) = let same : n ≡ m = cc (is) in absurd (other same)
of_another n m sector sector' past other (suc k, low, is) = (k, omega arith, is)

-- what took effect once had that sector
pub of_itself : (n : ℕ) (sector sector' : List ℕ) (past : List Event) → All (IsNoEffect n) past → Contains (Effect n sector ∷ past) (Effect n sector') → sector ≡ sector'
of_itself n sector sector' past once (zero, low, is) = cc (is)
of_itself n sector sector' past once (suc k, low, is) = let none : n ≢ n = All-contains (IsNoEffect n) past (Effect n sector') once (k, omega arith, is) in absurd (none refl)

-- AN EFFECT

-- the machine went on with no label of the history, to where this is so of the sectors
pub record Advance (rules : Rules) (asked : List (Option Asked)) (cells : Cells) (labels : List Label) (arrays : List (List (List ℕ))) (next piece : ℕ) (requests : List OpenRequest) : Type 0 where
  pub arrays' : List (List (List ℕ))
  pub piece' : ℕ
  pub requests' : List OpenRequest
  pub goes : Goes (served rules) (at_rest arrays next piece requests) [] (at_rest arrays' next piece' requests')
  pub ready : Ready rules asked cells labels arrays' next piece' requests'

module _ (rules : Rules) (room : IsAddressable rules) (asked : List (Option Asked)) (cells : Cells) (labels : List Label) (arrays : List (List (List ℕ))) (next piece : ℕ) (requests : List OpenRequest)
    (ready : Ready rules asked cells labels arrays next piece requests) (p i : ℕ) (within : i < sectors_of rules (Some p)) (n : ℕ) (sector : List ℕ) (events : List Event)
    (front : (cells p i).rest ≡ Effect n sector ∷ events) where
  abbrev past : List Event
  past = (cells p i).past

  abbrev moved : Cell
  moved = record { start = (cells p i).start; past = Effect n sector ∷ past; rest = events; all = (cells p i).all }

  abbrev after : Cells
  after = put cells p i moved

  course : IsOnCourse rules (length asked) labels arrays requests p i (cells p i)
  course = ready.courses p i within

  follows : TakesEffect rules p i (cells p i).start past n sector × MayFollow rules p i (cells p i).start (Effect n sector ∷ past) events
  follows = subst (MayFollow rules p i (cells p i).start past) front course.follows

  effect : TakesEffect rules p i (cells p i).start past n sector
  effect = follows.0

  found : IsFound requests n effect.request
  found = find_open requests n effect.request (course.opens n effect.request effect.is_open (at_taken rules p i effect.request effect.place effect.there))

  -- where the arrays and the requests are as they should be behind it
  ready_after : (arrays' : List (List (List ℕ))) (piece' : ℕ) (requests' : List OpenRequest) → AreDistinct (at_rest arrays' next piece' requests') → All (IsTracked rules after labels) requests'
      → ((m : ℕ) (q : ClientRequest) → IsOpenHere requests m q → IsOpenHere requests' m q) → slice_get (array_at arrays' p) i ≡ Some sector
      → ((p' i' : ℕ) → (IsSameSector p i p' i' → ⊥) → slice_get (array_at arrays' p') i' ≡ slice_get (array_at arrays p') i') → Ready rules asked after labels arrays' next piece' requests'
  ready_after arrays' piece' requests' distinct tracked stays here beside = record {
    distinct = distinct;
    tracked = tracked;
    courses = put_by (λ p' i' cell. i' < sectors_of rules (Some p') → IsOnCourse rules (length asked) labels arrays' requests' p' i' cell) cells p i moved
        (λ low. record {
          given = All-cons (IsBelow (length asked)) (Effect n sector) past (All-contains (IsBelow (length asked)) past _ course.given effect.is_open.called) course.given;
          follows = follows.1;
          seen = sym (ap labels_of front) ∙ course.seen;
          part = λ m none. All-tail (IsNoEffect m) (Effect n sector) events (subst (All (IsNoEffect m)) front (course.part m none));
          value = here;
          opens = λ m q is_open taken. stays m q (course.opens m q (record {
            called = not_newest n sector past _ is_open.called;
            awaits = All-tail (IsNoAnswer m) (Effect n sector) past is_open.awaits;
          }) taken);
        })
        (λ p' i' other low. let c : IsOnCourse rules (length asked) labels arrays requests p' i' (cells p' i') = ready.courses p' i' low in
        record { given = c.given; follows = c.follows; seen = c.seen; part = c.part; value = beside p' i' other ∙ c.value; opens = λ m q is_open taken. stays m q (c.opens m q is_open taken) });
    awaited = λ m a there. let w = ready.awaited m a there in (w.0, stays m w.0 w.1, w.2);
  }

  -- a place that it spares stays idle
  abbrev spares_after : (x : OpenRequest) → Spares rules cells x → Spares rules after x
  spares_after x s = record {
    place = s.place;
    inside = s.inside;
    unsent = s.unsent;
    idle = λ write. put_by (λ p' i' cell. i' < sectors_of rules (Some p') → IsAt rules p' i' x.request s.place → All (IsNoEffect x.number) cell.all) cells p i moved
        (λ low at. s.idle write p i low at) (λ p' i' other low at. s.idle write p' i' low at);
  }

  -- its number names the same call
  named_after : (x : OpenRequest) → IsTracked rules cells labels x → AreNamed rules after x
  named_after x t =
      put_by (λ p' i' cell. i' < sectors_of rules (Some p') → (q : ClientRequest) → Contains cell.past (Seen (Call x.number q)) → x.request ≡ q) cells p i moved
      (λ low q has. t.named p i low q (not_newest n sector past _ has)) (λ p' i' other low q has. t.named p' i' low q has)

  -- another request has the same places
  other_tracked : (x : OpenRequest) → x.number ≢ n → IsTracked rules cells labels x → IsTracked rules after labels x
  other_tracked x other t = record {
    waits = t.waits;
    started = t.started;
    taken = t.taken;
    carries = t.carries;
    places = t.places;
    suits = t.suits;
    at_places = put_by (λ p' i' cell. (k : ℕ) → IsAt rules p' i' x.request k → IsAtPlace rules cell.past (ending x.number labels) x k) cells p i moved
        (λ k at. let old : IsAtPlace rules past (ending x.number labels) x k = t.at_places p i k at in record {
          fresh = λ none. old.fresh (All-tail (IsNoEffect x.number) (Effect n sector) past none);
          done = λ e sector' there size. old.done e sector' (of_another n x.number sector sector' past (λ same. other (sym same)) there) size;
        })
        (λ p' i' differ k at. t.at_places p' i' k at);
    named = named_after x t;
    spares = λ busy. spares_after x (t.spares busy);
  }

  abbrev o : OpenRequest
  o = found.found

  abbrev k : ℕ
  k = effect.place

  mine : IsTracked rules cells labels o
  mine = All-head (IsTracked rules cells labels) o found.others (All-permutation (IsTracked rules cells labels) _ _ found.is_open ready.tracked)

  at : IsAt rules p i o.request k
  at = subst (λ q. IsAt rules p i q k) (sym found.is_request) effect.there

  moves : Moves rules (value_after (cells p i).start past) o.request k o.request.kind sector
  moves = subst (λ q. Moves rules (value_after (cells p i).start past) q k q.kind sector) (sym found.is_request) effect.moves

  once : All (IsNoEffect o.number) past
  once = subst (λ m. All (IsNoEffect m) past) (sym found.is_number) effect.once

  differ : All (λ x. x.number ≢ n) found.others
  differ = subst (λ m. All (λ x. x.number ≢ m) found.others) found.is_number (distinct_first request_number requests o found.others ready.distinct.requests found.is_open)

  others_tracked : All (IsTracked rules after labels) found.others
  others_tracked j d low =
      other_tracked (get_or found.others j d) (differ j d low) (All-tail (IsTracked rules cells labels) o found.others (All-permutation (IsTracked rules cells labels) _ _ found.is_open ready.tracked) j d low)

  on : partition_number o.request ≡ p
  on = ap (λ partition. unwrap_or partition 0) at.partition

  inside : k < length o.marks
  inside = rw mine.places at.inside

  place : IsAtPlace rules past (ending o.number labels) o k
  place = mine.at_places p i k at

  -- the same place
  one_place_there : (j : ℕ) → IsAt rules p i o.request j → j ≡ k
  one_place_there j there =
      let a : first_sector rules o.request + j ≡ i = there.sector in
      let b : first_sector rules o.request + k ≡ i = at.sector in
      omega arith

  -- the request with that place back
  own_tracked : (out : Outcome (ending o.number labels) sector) → (ending o.number labels ≡ DeviceBusy → o.request.kind ≡ Write) → IsTracked rules after labels (remarked k out.class out.mark o)
  own_tracked out safe = record {
    waits = mine.waits;
    started = started_at o' k (rw (remarked_length k out.class out.mark o inside) inside) (ap is_untouched there ∙ out.touched);
    taken = mine.taken;
    carries = mine.carries;
    places = remarked_length k out.class out.mark o inside ∙ mine.places;
    suits = λ j low. suits j (rw (remarked_length k out.class out.mark o inside) at low);
    at_places = put_by (λ p' i' cell. (j : ℕ) → IsAt rules p' i' o.request j → IsAtPlace rules cell.past (ending o.number labels) o' j) cells p i moved
        (λ j at'. record {
          fresh = λ none. let other : n ≢ o.number = All-head (IsNoEffect o.number) (Effect n sector) past none in absurd (other (sym found.is_number));
          done = λ e sector' has size. ap (λ m. mark_at o' m) (one_place_there j at') ∙ there ∙ out.done e ∙ ap Done (of_itself n sector sector' past effect.once (subst (λ m. Contains (Effect n sector ∷ past) (Effect m sector')) found.is_number has));
        })
        (λ p' i' other j at'.
        let apart : j ≢ k = λ same. other (beside p' i' j at' same) in
        let old : IsAtPlace rules (cells p' i').past (ending o.number labels) o j = mine.at_places p' i' j at' in
        let e : mark_at o' j ≡ mark_at o j = remarked_elsewhere k out.class out.mark o inside j apart in
        record { fresh = λ none. subst IsUnsent (sym e) (old.fresh none); done = λ success sector' has size. e ∙ old.done success sector' has size });
    named = named_after o mine;
    spares = λ busy. spared busy (mine.spares busy);
  }
    where
      o' : OpenRequest
      o' = remarked k out.class out.mark o

      there : mark_at o' k ≡ out.mark
      there = remarked_there k out.class out.mark o inside

      suits : (j : ℕ) → j < length o.marks → Suits (ending o.number labels) (mark_at o' j)
      suits j low = elim (cases_eq j k) [
        | inl same ↦ subst (Suits (ending o.number labels)) (sym (ap (λ m. mark_at o' m) same ∙ there)) out.suits
        | inr apart ↦ subst (Suits (ending o.number labels)) (sym (remarked_elsewhere k out.class out.mark o inside j apart)) (mine.suits j low)
      ]

      spared : ending o.number labels ≡ DeviceBusy → Spares rules cells o → Spares rules after o'
      spared busy s = record {
        place = s.place;
        inside = rw (remarked_length k out.class out.mark o inside) s.inside;
        unsent = subst IsUnsent (sym (remarked_elsewhere k out.class out.mark o inside s.place apart)) s.unsent;
        idle = (spares_after o s).idle;
      }
        where
          apart : s.place ≢ k
          apart same =
              let none : All (IsNoEffect o.number) (cells p i).rest = course.part o.number (s.idle (safe busy) p i within (subst (λ j. IsAt rules p i o.request j) (sym same) at)) in
              let other : n ≢ o.number = All-head (IsNoEffect o.number) (Effect n sector) events (subst (All (IsNoEffect o.number)) front none) in
              absurd (other (sym found.is_number))

      beside : (p' i' j : ℕ) → IsAt rules p' i' o.request j → j ≡ k → IsSameSector p i p' i'
      beside p' i' j at' same =
          let same_p : Some p' ≡ Some p = sym at'.partition ∙ at.partition in
          (cc (same_p), sym at'.sector ∙ ap (λ m. first_sector rules o.request + m) same ∙ at.sector)

  -- the act
  record Act : Type 0 where
    arrays' : List (List (List ℕ))
    transfers : Transfers (served rules) (at_rest arrays next piece requests) o.request (one_place k) o.request.kind (sector ∷ []) arrays'
    here : slice_get (array_at arrays' p) i ≡ Some sector
    beside : (p' i' : ℕ) → (IsSameSector p i p' i' → ⊥) → slice_get (array_at arrays' p') i' ≡ slice_get (array_at arrays p') i'

  act : (o.request.kind ≡ Read → length sector ≡ rules.sector_size) → Act
  act sized = by_kind o.request.kind refl moves
    where
      taken : IsAdmitted rules o.request
      taken = admitted rules o.request mine.taken

      part : o.request.kind ≡ Write → length (bytes_for rules o.request k) ≡ rules.sector_size
      part e =
          let whole : place_count rules o.request * rules.sector_size ≡ o.request.length = taken.whole (ap is_transfer e) in
          let carries : length o.request.bytes ≡ o.request.length = mine.carries ∙ ap (λ kind. bytes_carried kind o.request.length) e in
          part_length o.request.bytes k (place_count rules o.request) rules.sector_size at.inside (carries ∙ sym whole)

      by_kind : (kind : Kind) → o.request.kind ≡ kind → Moves rules (value_after (cells p i).start past) o.request k kind sector → Act
      by_kind Read e m =
          let there : slice_get (array_at arrays p) i ≡ Some sector = course.value ∙ ap Some (sym m) in
          let range : sector ∷ [] ≡ slice_range (array_at arrays (partition_number o.request)) (first_sector rules o.request + k) (first_sector rules o.request + k + 1) =
          one_of (array_at arrays p) i sector there ∙ ap (λ v. slice_range (array_at arrays v) i (i + 1)) (sym on)
          ∙ ap (λ j. slice_range (array_at arrays (partition_number o.request)) j (j + 1)) (sym at.sector) in
          record {
            arrays' = arrays;
            transfers = subst (λ kind. Transfers (served rules) (at_rest arrays next piece requests) o.request (one_place k) kind (sector ∷ []) arrays) (sym e)
                (λ faithful. range, All-cons (IsSector rules.sector_size) sector [] (sized e) (All-nil (IsSector rules.sector_size)), refl);
            here = there;
            beside = λ p' i' other. refl;
          }
      by_kind Write e m =
          let written : put_sector arrays p i (value_after (cells p i).start past) sector course.value
          ≡ slice_set arrays (partition_number o.request) (splice (array_at arrays (partition_number o.request)) (first_sector rules o.request + k) (sector ∷ [])) =
          ap (λ v. slice_set arrays v (splice (array_at arrays v) i (sector ∷ []))) (sym on)
          ∙ ap (λ j. slice_set arrays (partition_number o.request) (splice (array_at arrays (partition_number o.request)) j (sector ∷ []))) (sym at.sector) in
          record {
            arrays' = put_sector arrays p i (value_after (cells p i).start past) sector course.value;
            transfers = subst (λ kind. Transfers (served rules) (at_rest arrays next piece requests) o.request (one_place k) kind (sector ∷ []) (put_sector arrays p i (value_after (cells p i).start past) sector course.value)) (sym e)
                (append-nil sector ∙ m, All-cons (IsSector rules.sector_size) sector [] (ap length m ∙ part e) (All-nil (IsSector rules.sector_size)), written);
            here = put_here arrays p i (value_after (cells p i).start past) sector course.value;
            beside = put_beside arrays p i (value_after (cells p i).start past) sector course.value;
          }
      by_kind Flush e m = absurd m

  in_turn : All (IsInTurn o) requests
  in_turn = All-weaker (IsTracked rules cells labels) (IsInTurn o) (λ x t lower waits. t.started) requests ready.tracked

  executed : Act → Outcome (ending o.number labels) sector → (ending o.number labels ≡ DeviceBusy → o.request.kind ≡ Write) → Advance rules asked after labels arrays next piece requests
  executed a out safe =
      let taken : IsAdmitted (served rules) o.request = admitted (served rules) o.request mine.taken in
      let b : BlockOf (command_for (served rules) o.request (one_place k) o.request.kind) =
      block_for (served rules) o.request k o.request.kind (transfers_none o.request.kind at.transfer) (addressed (served rules) o.request k room taken at.transfer at.inside) in
      let goes : Goes (served rules) (at_rest arrays next piece requests) [] (at_rest a.arrays' next (piece + 1) (remarked k out.class out.mark o ∷ found.others)) =
      carries_out rules arrays next piece requests found.others o k found.is_open in_turn mine.waits inside (place.fresh once) b sector a.arrays' out.class out.mark a.transfers
      (out.leaves piece 0 o.number k) in
      record {
        arrays' = a.arrays';
        piece' = piece + 1;
        requests' = remarked k out.class out.mark o ∷ found.others;
        goes = goes;
        ready = ready_after a.arrays' (piece + 1) (remarked k out.class out.mark o ∷ found.others)
            (AreDistinct-Run (served rules) (at_rest arrays next piece requests) goes.labels _ ready.distinct goes.run)
            (All-cons (IsTracked rules after labels) (remarked k out.class out.mark o) found.others (own_tracked out safe) others_tracked)
            (still_open requests found.others o (remarked k out.class out.mark o) found.is_open refl refl) a.here a.beside;
      }

  -- a read that won't succeed is left out
  left_out : o.request.kind ≡ Read → (ending o.number labels ≡ Success → length sector ≢ rules.sector_size) → Advance rules asked after labels arrays next piece requests
  left_out read useless = record {
    arrays' = arrays;
    piece' = piece;
    requests' = requests;
    goes = goes_nowhere (served rules) (at_rest arrays next piece requests);
    ready = ready_after arrays piece requests ready.distinct
        (All-permutation (IsTracked rules after labels) _ _ (IsPermutation-sym _ _ found.is_open) (All-cons (IsTracked rules after labels) o found.others same others_tracked))
        (λ m q h. h) (course.value ∙ ap Some (sym (subst (λ kind. Moves rules (value_after (cells p i).start past) o.request k kind sector) read moves))) (λ p' i' other. refl);
  }
    where
      same : IsTracked rules after labels o
      same = record {
        waits = mine.waits;
        started = mine.started;
        taken = mine.taken;
        carries = mine.carries;
        places = mine.places;
        suits = mine.suits;
        at_places = put_by (λ p' i' cell. (j : ℕ) → IsAt rules p' i' o.request j → IsAtPlace rules cell.past (ending o.number labels) o j) cells p i moved
            (λ j at'. record {
              fresh = λ none. let other : n ≢ o.number = All-head (IsNoEffect o.number) (Effect n sector) past none in absurd (other (sym found.is_number));
              done = λ e sector' has size.
                  let is : sector ≡ sector' = of_itself n sector sector' past effect.once (subst (λ m. Contains (Effect n sector ∷ past) (Effect m sector')) found.is_number has) in
                  absurd (useless e (ap length is ∙ size read));
            })
            (λ p' i' other j at'. mine.at_places p' i' j at');
        named = named_after o mine;
        spares = λ busy. spares_after o (mine.spares busy);
      }

  pub advance : Advance rules asked after labels arrays next piece requests
  advance = by_kind o.request.kind refl
    where
      acts : (o.request.kind ≡ Read → length sector ≡ rules.sector_size) → (ending o.number labels ≡ DeviceBusy → o.request.kind ≡ Write) → Advance rules asked after labels arrays next piece requests
      acts sized safe = executed (act sized) (outcome (ending o.number labels) sector (ending_ends o.number labels)) safe

      read : o.request.kind ≡ Read → IsEnding (ending o.number labels) → Advance rules asked after labels arrays next piece requests
      read e (inl success) = elim (cases_eq (length sector) rules.sector_size) [
        | inl size ↦ acts (λ is. size) (λ busy. cc (success, busy))
        | inr wrong ↦ left_out e (λ is. wrong)
      ]
      read e (inr (inl busy)) = left_out e (λ success. absurd (never (sym success ∙ busy)))
        where
          never : Success ≡ DeviceBusy → ⊥
          never f = cc (f)
      read e (inr (inr f)) = left_out e (λ success. absurd (f.fails success))

      by_kind : (kind : Kind) → o.request.kind ≡ kind → Advance rules asked after labels arrays next piece requests
      by_kind Read e = read e (ending_ends o.number labels)
      by_kind Write e = acts (λ is. cc (e, is)) (λ busy. e)
      by_kind Flush e = absurd (transfers_none o.request.kind at.transfer e)
