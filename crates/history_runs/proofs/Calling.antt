-- A call opens its request, whose first place starts and comes back busy; or it is refused.
use Rattle.std.proofs.Common.{◌≡◌, ◌≢◌, ◌<◌, inl, inr, ℕ, zero, suc, ◌+◌, List, [], ◌∷◌, ◌++◌, Option, Some, None, refl, sym, ◌∙◌, ap, subst, arith, length, get_or, replicate, length-append}
use Rattle.std.specs.Prelude.{All, Contains}
use Rattle.std.proofs.lemmas.Bool.{cases_lt, cases_eq}
use Rattle.std.proofs.lemmas.List.{length-replicate, get_or-replicate, get_or_past}
use Rattle.std.proofs.lemmas.List.Sorted.{IsPermutation-refl}
use Rattle.std.proofs.lemmas.List.Elements.{All-cons, All-tail, All-contains, All-weaker}
use Rattle.ntstatus.specs.declared.NtStatus.{NtStatus}
use Rattle.ntstatus.specs.declared.NtStatus.TheVariants.{DeviceBusy}
use Rattle.srb.specs.declared.Kind.{Kind}
use Rattle.srb.specs.declared.Kind.TheVariants.{Read, Write, Flush}
use Rattle.srb.specs.declared.Class.TheVariants.{Busy}
use Rattle.machine.specs.declared.ClientRequest.{ClientRequest}
use Rattle.machine.specs.declared.Label.{Label}
use Rattle.machine.specs.declared.Label.TheVariants.{Call, Answer}
use Rattle.machine.specs.Rules.{Rules, is_transfer, sectors_of, place_count}
use Rattle.machine.specs.State.{Mark, Untouched, Back, OpenRequest, State}
use Rattle.machine.specs.Calling.{refusal, bytes_carried, new_request, Opens, Refuses, Admits}
use Rattle.machine.specs.Cutting.{mark_at}
use Rattle.machine.specs.Sending.{IsUnsent, IsInTurn, is_untouched, command_for}
use Rattle.machine.specs.Step.{Step}
use Rattle.machine.proofs.Numbers.{AreDistinct-Run}
use Rattle.machine.proofs.Same.{IsSame-refl}
use Rattle.history_laws.specs.declared.Asked.{Asked}
use Rattle.history_laws.specs.Schedules.{Seen, Effect, IsAt, IsNoAnswer, IsOpen, IsNoEffect}
use Rattle.history_laws.specs.Fitting.{refused, asked_of}
use Rattle.history_laws.proofs.Mirroring.{IsBelow, further}
use Rattle.history_runs.specs.Laws.{IsAddressable}
use Rattle.history_runs.proofs.Blocks.{BlockOf, one_place, block_for, block_for_flush}
use Rattle.history_runs.proofs.Admitted.{served, IsAdmitted, admitted, addressed, refusal_is}
use Rattle.history_runs.proofs.Steps.{Goes, goes_then, goes_seen, at_rest, remarked, comes_back}
use Rattle.history_runs.proofs.Marks.{remarked_length, remarked_there, remarked_elsewhere, started_at}
use Rattle.history_runs.proofs.Failing.{ending, other_ending}
use Rattle.history_runs.proofs.Tracking.{Cells, Suits, IsTracked, IsOpenHere, Ready}
use Rattle.history_runs.proofs.Advancing.{at_taken, transfers_none}
use Rattle.history_runs.proofs.Seeing.{seen_cells, AreCaughtUp, seen_request, seen_course, not_call, asked_more}

-- the labels of the history are those of a run to a state at rest, where the history goes on
pub record Passes (rules : Rules) (asked : List (Option Asked)) (cells : Cells) (seen labels : List Label) (arrays : List (List (List ℕ))) (next piece : ℕ) (requests : List OpenRequest) : Type 0 where
  pub cells' : Cells
  pub arrays' : List (List (List ℕ))
  pub next' : ℕ
  pub piece' : ℕ
  pub requests' : List OpenRequest
  pub count : next' ≡ length asked
  pub same : (p i : ℕ) → (cells' p i).all ≡ (cells p i).all
  pub goes : Goes (served rules) (at_rest arrays next piece requests) seen (at_rest arrays' next' piece' requests')
  pub ready : Ready rules asked cells' labels arrays' next' piece' requests'

-- one of its places is idle, if it is a write
pub record IsSpared (rules : Rules) (cells : Cells) (n : ℕ) (q : ClientRequest) : Type 0 where
  pub place : ℕ
  pub inside : place < place_count rules q
  pub idle : q.kind ≡ Write → (p i : ℕ) → i < sectors_of rules (Some p) → IsAt rules p i q place → All (IsNoEffect n) (cells p i).all

-- a block for a place of a request
pub block_at : (rules : Rules) (q : ClientRequest) (place : ℕ) → IsAddressable rules → refused rules q ≡ None → place < place_count rules q → BlockOf (command_for (served rules) q (one_place place) q.kind)
block_at rules q place room taken low = by_kind q.kind refl
  where
    by_kind : (kind : Kind) → q.kind ≡ kind → BlockOf (command_for (served rules) q (one_place place) q.kind)
    by_kind Read e = block_for (served rules) q place q.kind (transfers_none q.kind (ap is_transfer e)) (addressed (served rules) q place room (admitted (served rules) q taken) (ap is_transfer e) low)
    by_kind Write e = block_for (served rules) q place q.kind (transfers_none q.kind (ap is_transfer e)) (addressed (served rules) q place room (admitted (served rules) q taken) (ap is_transfer e) low)
    by_kind Flush e = block_for_flush (served rules) q place q.kind e

-- a place lies in the partition
pub at_within : (rules : Rules) (p i : ℕ) (q : ClientRequest) (k : ℕ) → IsAt rules p i q k → i < sectors_of rules (Some p)
at_within rules p i q k at =
    let h : IsAdmitted rules q = admitted rules q (at_taken rules p i q k at) in
    let same : Some h.partition ≡ Some p = sym h.known ∙ at.partition in
    let past = h.inside at.transfer in
    let is = at.sector in
    let low = at.inside in
    let within : i < sectors_of rules (Some h.partition) = omega arith in
    subst (λ part. i < sectors_of rules part) same within

call_is : {n m : ℕ} {q r : ClientRequest} → Call n q ≡ Call m r → (n ≡ m) × (q ≡ r)
call_is e = (cc (e), cc (e))

some_is : {a b : Asked} → Some a ≡ Some b → a ≡ b
some_is e = cc (e)

replicate_is : (n k : ℕ) → get_or (replicate n Untouched) k Untouched ≡ Untouched
replicate_is n k = elim (cases_lt k n) [
  | inl low ↦ get_or-replicate n k Untouched Untouched low
  | inr past ↦ get_or_past (replicate n Untouched) k Untouched (rw (length-replicate n Untouched) past)
]

module _ (rules : Rules) (room : IsAddressable rules) (asked : List (Option Asked)) (cells : Cells) (labels : List Label) (arrays : List (List (List ℕ))) (next piece : ℕ) (requests : List OpenRequest)
    (n : ℕ) (q : ClientRequest) (ready : Ready rules asked cells (Call n q ∷ labels) arrays next piece requests) (caught : AreCaughtUp rules cells)
    (number : n ≡ next) (count : next ≡ length asked) where
  -- what was open is seen beside it
  others_seen : All (IsTracked rules (seen_cells (Call n q) cells) labels) requests
  others_seen j d low =
      let x : OpenRequest = get_or requests j d in
      let given : x.number < next = ready.distinct.given j d low in
      seen_request rules cells (Call n q) labels x refl (λ r e. let same : n ≡ x.number = (call_is e).0 in absurd (omega arith)) (ready.tracked j d low)

  is_new : n ≡ length asked
  is_new = number ∙ count

  more : (x : Option Asked) → length (asked ++ x ∷ []) ≡ length asked + 1
  more x = length-append asked (x ∷ [])

  -- OPENED

  module _ (taken : refused rules q ≡ None) (carries : length q.bytes ≡ bytes_carried q.kind q.length) (spare : ending n labels ≡ DeviceBusy → IsSpared rules cells n q) where
    abbrev new : OpenRequest
    new = new_request (served rules) (at_rest arrays next piece requests) n q

    abbrev back : OpenRequest
    back = remarked 0 Busy Back new

    step : Step (served rules) (at_rest arrays next piece requests) (Call n q) (at_rest arrays (n + 1) piece (new ∷ requests))
    step =
        let allowed : refusal (served rules) (at_rest arrays next piece requests) q ≡ None = refusal_is rules (at_rest arrays next piece requests) q refl ∙ taken in
        let opens : Opens (served rules) (at_rest arrays next piece requests) n q (at_rest arrays (n + 1) piece (new ∷ requests)) =
        record { new_number = omega arith; not_refused = allowed; carries = carries; after = IsSame-refl _ } in
        inl (refl, record { next_number = number; admits = subst (λ answer. Admits (served rules) (at_rest arrays next piece requests) n q answer (at_rest arrays (n + 1) piece (new ∷ requests))) (sym allowed) opens })

    some : 0 < place_count rules q
    some = (admitted rules q taken).some

    inside : 0 < length new.marks
    inside = rw (length-replicate (place_count (served rules) q) Untouched) some

    goes : Goes (served rules) (at_rest arrays next piece requests) (Call n q ∷ []) (at_rest arrays (n + 1) (piece + 1) (back ∷ requests))
    goes =
        goes_then (served rules) (at_rest arrays next piece requests) (at_rest arrays (n + 1) piece (new ∷ requests)) (at_rest arrays (n + 1) (piece + 1) (back ∷ requests)) (Call n q ∷ []) []
        (goes_seen (served rules) (at_rest arrays next piece requests) (at_rest arrays (n + 1) piece (new ∷ requests)) (Call n q) tt refl step)
        (comes_back rules arrays (n + 1) piece (new ∷ requests) requests new 0 (IsPermutation-refl _)
        (All-cons (IsInTurn new) new requests (λ lower waits. absurd (omega arith)) (All-weaker (IsTracked rules cells (Call n q ∷ labels)) (IsInTurn new) (λ x t lower waits. t.started) requests ready.tracked))
        refl inside (rw (replicate_is (place_count (served rules) q) 0) refl) (block_at rules q 0 room taken some))

    there : mark_at back 0 ≡ Back
    there = remarked_there 0 Busy Back new inside

    elsewhere : (k : ℕ) → k ≢ 0 → mark_at back k ≡ Untouched
    elsewhere k other = remarked_elsewhere 0 Busy Back new inside k other ∙ replicate_is (place_count (served rules) q) k

    both : (P : Mark → Type 0) → P Back → P Untouched → (k : ℕ) → P (mark_at back k)
    both P b u k = elim (cases_eq k 0) [
      | inl same ↦ subst (λ m. P (mark_at back m)) (sym same) (subst P (sym there) b)
      | inr other ↦ subst P (sym (elsewhere k other)) u
    ]

    no_effect : (p i : ℕ) → i < sectors_of rules (Some p) → (sector : List ℕ) → Contains (Seen (Call n q) ∷ (cells p i).past) (Effect n sector) → ⊥
    no_effect p i within sector (zero, low, is) = cc (is)
    no_effect p i within sector (suc k, low, is) =
        let below : n < length asked = All-contains (IsBelow (length asked)) (cells p i).past (Effect n sector) (ready.courses p i within).given (k, omega arith, is) in
        let same : n ≡ length asked = is_new in
        absurd (omega arith)

    own_call : (p i : ℕ) → i < sectors_of rules (Some p) → (r : ClientRequest) → Contains (Seen (Call n q) ∷ (cells p i).past) (Seen (Call n r)) → q ≡ r
    own_call p i within r (zero, low, is) = let same : Call n q ≡ Call n r = cc (is) in (call_is same).1
    own_call p i within r (suc k, low, is) =
        let below : n < length asked = All-contains (IsBelow (length asked)) (cells p i).past (Seen (Call n r)) (ready.courses p i within).given (k, omega arith, is) in
        let same : n ≡ length asked = is_new in
        absurd (omega arith)

    new_tracked : IsTracked rules (seen_cells (Call n q) cells) labels back
    new_tracked = record {
      waits = refl;
      started = started_at back 0 (rw (remarked_length 0 Busy Back new inside) inside) (ap is_untouched there);
      taken = taken;
      carries = carries;
      places = remarked_length 0 Busy Back new inside ∙ length-replicate (place_count (served rules) q) Untouched;
      suits = λ k low. both (Suits (ending n labels)) tt tt k;
      at_places = λ p i k at. record {
        fresh = λ none. both IsUnsent refl refl k;
        done = λ e sector has size. absurd (no_effect p i (at_within rules p i q k at) sector has);
      };
      named = λ p i within r has. own_call p i within r has;
      spares = λ busy. let s = spare busy in record {
        place = s.place;
        inside = rw (remarked_length 0 Busy Back new inside ∙ length-replicate (place_count (served rules) q) Untouched) s.inside;
        unsent = both IsUnsent refl refl s.place;
        idle = s.idle;
      };
    }

    opens_here : (p i : ℕ) → i < sectors_of rules (Some p) → (m : ℕ) (r : ClientRequest) → IsOpen (Seen (Call n q) ∷ (cells p i).past) m r → refused rules r ≡ None → IsOpenHere (back ∷ requests) m r
    opens_here p i within m r is_open taken' = by_place is_open.called
      where
        by_place : Contains (Seen (Call n q) ∷ (cells p i).past) (Seen (Call m r)) → IsOpenHere (back ∷ requests) m r
        by_place (zero, low, is) = let same : Call n q ≡ Call m r = cc (is) in (back, (0, omega arith, refl), (call_is same).0, (call_is same).1)
        by_place (suc k, low, is) =
            let old : IsOpenHere requests m r =
            (ready.courses p i within).opens m r (record { called = (k, omega arith, is); awaits = All-tail (IsNoAnswer m) (Seen (Call n q)) (cells p i).past is_open.awaits }) taken' in
            (old.0, further back requests old.0 old.1, old.2, old.3)

    pub call_passes : Passes rules (asked ++ Some (asked_of q) ∷ []) cells (Call n q ∷ []) labels arrays next piece requests
    call_passes = record {
      cells' = seen_cells (Call n q) cells;
      arrays' = arrays;
      next' = n + 1;
      piece' = piece + 1;
      requests' = back ∷ requests;
      count = ap (λ m. m + 1) is_new ∙ sym (more (Some (asked_of q)));
      same = λ p i. refl;
      goes = goes;
      ready = record {
        distinct = AreDistinct-Run (served rules) (at_rest arrays next piece requests) goes.labels _ ready.distinct goes.run;
        tracked = All-cons (IsTracked rules (seen_cells (Call n q) cells) labels) back requests new_tracked others_seen;
        courses = λ p i within. let e = more (Some (asked_of q)) in let same = is_new in
            seen_course rules (length asked) (length (asked ++ Some (asked_of q) ∷ [])) (Call n q) labels arrays requests (back ∷ requests) p i (cells p i) (ready.courses p i within) (caught p i within)
            (omega arith) (omega arith) (opens_here p i within);
        awaited = λ m a has. elim (asked_more asked (Some (asked_of q)) m a has) [
          | inl old ↦ let w = ready.awaited m a old in (w.0, (w.1.0, further back requests w.1.0 w.1.1, w.1.2, w.1.3), w.2)
          | inr (last, is) ↦ let same : asked_of q ≡ a = some_is is in (q, (back, (0, omega arith, refl), is_new ∙ sym last, refl), same)
        ];
      };
    }

  -- REFUSED

  module _ (status : NtStatus) (why : refused rules q ≡ Some status) where
    still_opens : (p i : ℕ) → i < sectors_of rules (Some p) → (m : ℕ) (r : ClientRequest) → IsOpen (Seen (Call n q) ∷ (cells p i).past) m r → refused rules r ≡ None → IsOpenHere requests m r
    still_opens p i within m r is_open taken = by_place is_open.called
      where
        by_place : Contains (Seen (Call n q) ∷ (cells p i).past) (Seen (Call m r)) → IsOpenHere requests m r
        by_place (zero, low, is) = let same : Call n q ≡ Call m r = cc (is) in absurd (never (sym why ∙ ap (refused rules) (call_is same).1 ∙ taken))
          where
            never : Some status ≡ None → ⊥
            never e = cc (e)
        by_place (suc k, low, is) =
            (ready.courses p i within).opens m r (record { called = (k, omega arith, is); awaits = All-tail (IsNoAnswer m) (Seen (Call n q)) (cells p i).past is_open.awaits }) taken

    -- the schedules go on behind it, and the machine stays where it is
    pub refused_ready : Ready rules (asked ++ None ∷ []) (seen_cells (Call n q) cells) labels arrays next piece requests
    refused_ready = record {
      distinct = ready.distinct;
      tracked = others_seen;
      courses = λ p i within. let e = more None in let same = is_new in
          seen_course rules (length asked) (length (asked ++ None ∷ [])) (Call n q) labels arrays requests requests p i (cells p i) (ready.courses p i within) (caught p i within)
          (omega arith) (omega arith) (still_opens p i within);
      awaited = λ m a has. elim (asked_more asked None m a has) [ inl old ↦ ready.awaited m a old | inr (last, is) ↦ absurd (never a is) ];
    }
      where
        never : (a : Asked) → None ≡ Some a → ⊥
        never a e = cc (e)

-- A REFUSED CALL

module _ (rules : Rules) (arrays : List (List (List ℕ))) (next piece : ℕ) (requests : List OpenRequest) (n : ℕ) (q : ClientRequest) (status : NtStatus) (number : n ≡ next)
    (why : refused rules q ≡ Some status) (none : q.bytes ≡ []) where
  abbrev owing : State
  owing = record (at_rest arrays (n + 1) piece requests) { owed = Some (record { number = n; status = status }) }

  pub call_refused : Step (served rules) (at_rest arrays next piece requests) (Call n q) owing
  call_refused =
      let refusal_why : refusal (served rules) (at_rest arrays next piece requests) q ≡ Some status = refusal_is rules (at_rest arrays next piece requests) q refl ∙ why in
      let refuses : Refuses (at_rest arrays next piece requests) n status q owing = record { no_bytes = none; after = IsSame-refl _ } in
      inl (refl, record { next_number = number; admits = subst (λ answer. Admits (served rules) (at_rest arrays next piece requests) n q answer owing) (sym refusal_why) refuses })

-- the refused call and its answer come behind the effects between them
module _ (rules : Rules) (asked : List (Option Asked)) (cells : Cells) (labels : List Label) (arrays : List (List (List ℕ))) (next piece : ℕ) (requests : List OpenRequest)
    (n : ℕ) (q : ClientRequest) (status : NtStatus) (m : ℕ) (told : NtStatus) (informed : ℕ) (bytes : List ℕ) (ready : Ready rules asked cells (Answer m told informed bytes ∷ labels) arrays next piece requests)
    (caught : AreCaughtUp rules cells) (number : n ≡ next) (count : next + 1 ≡ length asked) (why : refused rules q ≡ Some status) (none : q.bytes ≡ []) (is_answer : m ≡ n) (is_told : told ≡ status) (informs : informed ≡ 0) (brings : bytes ≡ []) where
  both_pass : Goes (served rules) (at_rest arrays next piece requests) (Call n q ∷ Answer m told informed bytes ∷ []) (at_rest arrays (n + 1) piece requests)
  both_pass =
      goes_then (served rules) (at_rest arrays next piece requests) (owing rules arrays next piece requests n q status number why none) (at_rest arrays (n + 1) piece requests) (Call n q ∷ []) (Answer m told informed bytes ∷ [])
      (goes_seen (served rules) (at_rest arrays next piece requests) (owing rules arrays next piece requests n q status number why none) (Call n q) tt refl (call_refused rules arrays next piece requests n q status number why none))
      (goes_seen (served rules) (owing rules arrays next piece requests n q status number why none) (at_rest arrays (n + 1) piece requests) (Answer m told informed bytes) tt refl
      (inr (record { is_owed = ap (λ k. Some (record { number = k; status = status })) (sym is_answer) ∙ ap (λ x. Some (record { number = m; status = x })) (sym is_told); none_moved = informs; no_bytes = brings; after = IsSame-refl _ })))

  pub refused_passes : Passes rules asked cells (Call n q ∷ Answer m told informed bytes ∷ []) labels arrays next piece requests
  refused_passes = record {
    cells' = seen_cells (Answer m told informed bytes) cells;
    arrays' = arrays;
    next' = n + 1;
    piece' = piece;
    requests' = requests;
    count = ap (λ m. m + 1) number ∙ count;
    same = λ p i. refl;
    goes = both_pass;
    ready = record {
      distinct = AreDistinct-Run (served rules) (at_rest arrays next piece requests) both_pass.labels _ ready.distinct both_pass.run;
      tracked = λ j d low. seen (get_or requests j d) (ready.distinct.given j d low) (ready.tracked j d low);
      courses = λ p i within.
          seen_course rules (length asked) (length asked) (Answer m told informed bytes) labels arrays requests requests p i (cells p i) (ready.courses p i within) (caught p i within)
          (omega arith) (omega arith) (λ j r is_open taken. (ready.courses p i within).opens j r (record {
            called = not_call (Answer m told informed bytes) (cells p i).past (Call j r) (λ e. cc (e)) is_open.called;
            awaits = All-tail (IsNoAnswer j) (Seen (Answer m told informed bytes)) (cells p i).past is_open.awaits;
          }) taken);
      awaited = ready.awaited;
    };
  }
    where
      seen : (x : OpenRequest) → x.number < next → IsTracked rules cells (Answer m told informed bytes ∷ labels) x → IsTracked rules (seen_cells (Answer m told informed bytes) cells) labels x
      seen x given t =
          let differ : m ≢ x.number = λ e. absurd (omega arith) in
          seen_request rules cells (Answer m told informed bytes) labels x (other_ending m x.number told informed bytes labels differ) (λ r e. cc (e)) t
