-- A place of a request fails, as the schedules of all sectors have it.
use Rattle.std.proofs.Common.{◌≡◌, ◌≢◌, ◌<◌, ◌≤◌, ◌⊎◌, inl, inr, ℕ, zero, suc, ◌+◌, ◌/◌, ◌&&◌, ◌==◌, not, Bool, true, false, List, [], ◌∷◌, Option, None, refl, sym, ◌∙◌, ap, subst, arith, length, get_or}
use Rattle.std.specs.Prelude.{All, Contains, IsPermutation, is_none, if◌then◌else◌}
use Rattle.std.specs.List.{remove}
use Rattle.std.proofs.lemmas.Bool.{cases_eq}
use Rattle.std.proofs.lemmas.List.Sorted.{IsPermutation-remove, All-permutation, Contains-permutation, length_permutation}
use Rattle.std.proofs.lemmas.List.Elements.{All-cons, All-contains, All-head, All-tail, All-weaker}
use Rattle.ntstatus.specs.declared.NtStatus.{NtStatus}
use Rattle.ntstatus.specs.declared.NtStatus.TheVariants.{Success, InvalidHandle, InvalidParameter, IoDeviceError}
use Rattle.ntstatus.specs.First.{when, first_some}
use Rattle.sector.specs.Splice.{splice}
use Rattle.sector.proofs.Splicing.{length-splice}
use Rattle.srb.specs.declared.Completion.{Completion}
use Rattle.srb.specs.declared.Class.TheVariants.{Bad}
use Rattle.srb.specs.declared.Kind.{Kind}
use Rattle.srb.specs.declared.Kind.TheVariants.{Read, Write, Flush}
use Rattle.srb.specs.Fate.{class_of}
use Rattle.machine.specs.declared.ClientRequest.{ClientRequest}
use Rattle.machine.specs.declared.Label.TheVariants.{Call}
use Rattle.machine.specs.Rules.{Rules, is_transfer, place_count}
use Rattle.machine.specs.State.{Mark, Untouched, Out, Done, Failed, Back, OpenRequest, Piece}
use Rattle.machine.specs.Calling.{bytes_carried}
use Rattle.machine.specs.Cutting.{mark_at}
use Rattle.machine.specs.Sending.{IsUnsent, IsInTurn, IsLowestFreeTag, command_for, given_back, is_untouched, status_of_completion}
use Rattle.machine.specs.Numbers.{request_number}
use Rattle.machine.proofs.Permuting.{distinct_first}
use Rattle.machine.proofs.Placed.{get_or-splice_inside, get_or-splice_above}
use Rattle.history_laws.specs.declared.Asked.{Asked}
use Rattle.history_laws.specs.Fitting.{refused}
use Rattle.history_runs.specs.Laws.{IsAddressable}
use Rattle.history_runs.proofs.Blocks.{BlockOf}
use Rattle.history_runs.proofs.Calling.{block_at}
use Rattle.history_runs.proofs.Failing.{FailsBy, IsEnding, ending, usable_ends}
use Rattle.history_runs.proofs.Marks.{remarked_length, remarked_there, remarked_elsewhere, started_at}
use Rattle.history_runs.proofs.Steps.{remarked}
use Rattle.history_runs.proofs.Tracking.{IsFound, IsOpenHere, find_open, still_open}
use Rattle.loss.specs.Held.{Held, changed_by, fault_changes}
use Rattle.loss.specs.Moved.{Table, work_of}
use Rattle.loss.specs.Laws.{sector_of}
use Rattle.loss.specs.Sessions.{Told}
use Rattle.history_loss.specs.Schedules.{Event, Seen, Effect, Fails, FailsThere, IsAdmitted, IsAt, IsIdle, IsNoAnswer, IsNoEffect, IsNoFailure, failed, one_place}
use Rattle.history_loss.proofs.Mirroring.{IsBelow}
use Rattle.history_loss.proofs.Places.{fault_fails}
use Rattle.history_loss_runs.proofs.Having.{Has, has_failed, has_fewer}
use Rattle.history_loss_runs.proofs.Steps.{Goes, failed_table, fails, flush_fails, moment, standing, storing}
use Rattle.history_loss_runs.proofs.Tags.{lowest_free}
use Rattle.history_loss_runs.proofs.Tracking.{Cells, IsAtPlace, IsOutFlush, IsTracked, Ready, Suits, Track, all_shared, flush_piece, labels_till, shared_seen}
use Rattle.history_loss_runs.proofs.Advancing.{IsBound, at_taken, goes_distinct}
use Rattle.history_loss_runs.proofs.Catching.{IsCaughtUp}
use Rattle.history_loss_runs.proofs.Sharing.{IsShared, Passes, behind_first, helds, seen_cells, seen_courses, seen_track, takes}

-- nothing refuses a request with a place
pub place_taken : (rules : Rules) (q : ClientRequest) (k : ℕ) → IsAdmitted rules q → k < place_count rules q → refused rules q ≡ None
place_taken rules q k a low = by_kind q.kind refl
  where
    transfer : is_transfer q.kind ≡ true → refused rules q ≡ None
    transfer t = at_taken rules (sector_of rules q k) q k (record { admitted = a; transfer = t; sector = refl; inside = low })

    no_transfer : (unknown bounds empty t : Bool) → unknown ≡ false → t ≡ false
        → first_some (when unknown InvalidHandle ∷ when (t && not bounds) InvalidParameter ∷ when (t && empty) Success ∷ []) ≡ None
    no_transfer unknown bounds empty t e f = rw (e, f) refl

    by_kind : (kind : Kind) → q.kind ≡ kind → refused rules q ≡ None
    by_kind Read e = transfer (ap is_transfer e)
    by_kind Write e = transfer (ap is_transfer e)
    by_kind Flush e = no_transfer (is_none q.partition) _ (q.length == 0) (is_transfer q.kind) a.known (ap is_transfer e)

-- a flush has one place
pub flush_places : (rules : Rules) (q : ClientRequest) → q.kind ≡ Flush → place_count rules q ≡ 1
flush_places rules q flush = by_kind q.kind flush
  where
    by_kind : (kind : Kind) → kind ≡ Flush → (if is_transfer kind then q.length / rules.sector_size else 1) ≡ 1
    by_kind kind e = rw e refl

-- a completion that fails
failing : FailsBy IoDeviceError
failing = by_end (usable_ends IoDeviceError)
  where
    by_end : IsEnding IoDeviceError → FailsBy IoDeviceError
    by_end (inl e) = absurd (cc (e))
    by_end (inr (inl e)) = absurd (cc (e))
    by_end (inr (inr f)) = f

-- how a place fails of a request that will be answered so
pub record Blow (status : NtStatus) : Type 0 where
  pub completion : Completion
  pub is_bad : class_of completion ≡ Bad completion
  pub told : ((status_of_completion completion ≡ status) × (status ≢ Success)) ⊎ (status ≡ Success)

pub blow : (status : NtStatus) → IsBound status → Blow status
blow status (inl success) = record { completion = failing.completion; is_bad = failing.is_bad; told = inr success }
blow status (inr f) = record { completion = f.completion; is_bad = f.is_bad; told = inl (f.is_status, f.fails) }

-- an item, and the others
pub taken_out : {X : Type 0} (xs : List X) (x : X) → Contains xs x → (others : List X) × IsPermutation xs (x ∷ others)
taken_out xs x (k, low, is) = (remove xs k, IsPermutation-remove xs k x low (sym is))

-- the flush of another request stays out
pub other_flush : (outs outs' : List Piece) (number tag owner : ℕ) → IsPermutation outs (flush_piece number tag owner ∷ outs') → (x : OpenRequest) → x.number ≢ owner → IsOutFlush outs x → IsOutFlush outs' x
other_flush outs outs' number tag owner perm x other f = record { number = f.number; tag = f.tag; is_out = by_place (Contains-permutation _ _ _ perm f.is_out); mark = f.mark }
  where
    by_place : Contains (flush_piece number tag owner ∷ outs') (flush_piece f.number f.tag x.number) → Contains outs' (flush_piece f.number f.tag x.number)
    by_place (zero, low, is) =
        let same : flush_piece number tag owner ≡ flush_piece f.number f.tag x.number = is in
        let owns : owner ≡ x.number = ap (λ (p : Piece). p.owner) same in
        absurd (other (sym owns))
    by_place (suc j, low, is) = (j, omega arith, is)

module _ (rules : Rules) (depth : ℕ) (room : IsAddressable rules) (asked : List (Option Asked)) (cells : Cells) (sp ss : List Event) (arrays : List (List (List ℕ))) (next piece : ℕ) (requests : List OpenRequest) (outs : List Piece) (table : Table)
    (n k : ℕ) (ready : Ready rules asked cells sp (Fails n k ∷ ss) arrays next piece requests outs table) (caught : (i : ℕ) → IsCaughtUp (cells i).rest) (space : length outs < depth)
    (bound : (m : ℕ) → IsBound (ending m (labels_till ss))) where
  abbrev e : Event
  e = Fails n k

  shared : IsShared e
  shared = record { plain = λ past. refl; shares = λ past. refl; no_effect = λ m sector q. cc (q) }

  abbrev held : ℕ → Held
  held = helds rules asked cells sp ss arrays next piece requests outs table e ready caught shared

  t : (i : ℕ) → FailsThere rules i (cells i).past (cells i).held n k (held i)
  t i = takes rules asked cells sp ss arrays next piece requests outs table e ready caught shared i

  called : (i : ℕ) → Contains sp (Seen (Told (Call n (t i).request)))
  called i = subst (λ xs. Contains xs (Seen (Told (Call n (t i).request)))) (ready.courses i).past_shared (shared_seen (cells i).past (Told (Call n (t i).request)) (t i).is_open.called)

  found : IsFound requests n (t 0).request
  found = find_open requests n (t 0).request (ready.opens n (t 0).request (called 0)
      (subst (All (IsNoAnswer n)) (ready.courses 0).past_shared (all_shared (IsNoAnswer n) (cells 0).past (t 0).is_open.awaits)) (place_taken rules (t 0).request k (t 0).admitted (t 0).inside))

  abbrev o : OpenRequest
  o = found.found

  abbrev status : NtStatus
  status = ending o.number (labels_till ss)

  mine : Track rules cells outs sp (e ∷ ss) o
  mine = All-head (Track rules cells outs sp (e ∷ ss)) o found.others (All-permutation (Track rules cells outs sp (e ∷ ss)) _ _ found.is_open ready.tracked)

  same : (i : ℕ) → o.request ≡ (t i).request
  same i = mine.named (t i).request (subst (λ m. Contains sp (Seen (Told (Call m (t i).request)))) (sym found.is_number) (called i))

  held_is : (i : ℕ) → held i ≡ failed rules next o.request k i (cells i).held
  held_is i = (t i).after ∙ ap (λ m. failed rules m (t i).request k i (cells i).held) (ready.courses i).number ∙ ap (λ q. failed rules next q k i (cells i).held) (sym (same i))

  low : k < place_count rules o.request
  low = subst (λ q. k < place_count rules q) (sym (same 0)) (t 0).inside

  inside : k < length o.marks
  inside = rw mine.places low

  admits : IsAdmitted rules o.request
  admits = subst (λ q. IsAdmitted rules q) (sym (same 0)) (t 0).admitted

  differ : All (λ x. x.number ≢ n) found.others
  differ = subst (λ m. All (λ x. x.number ≢ m) found.others) found.is_number (distinct_first request_number requests o found.others ready.distinct.requests found.is_open)

  unfailed : All (IsNoFailure o.number k) sp
  unfailed = subst (λ m. All (IsNoFailure m k) sp) (sym found.is_number) (subst (All (IsNoFailure n k)) (ready.courses 0).past_shared (all_shared (IsNoFailure n k) (cells 0).past (t 0).idle.failure))

  abbrev after : Cells
  after = seen_cells e held cells

  others_tracked : (outs' : List Piece) → ((x : OpenRequest) → x.number ≢ n → IsOutFlush outs x → IsOutFlush outs' x) → All (Track rules after outs' (e ∷ sp) ss) found.others
  others_tracked outs' out j d within =
      let x : OpenRequest = get_or found.others j d in
      seen_track rules cells e held outs outs' sp shared (ending x.number (labels_till ss)) x (λ q is. cc (is)) (out x (differ j d within))
      (All-tail (Track rules cells outs sp (e ∷ ss)) o found.others (All-permutation (Track rules cells outs sp (e ∷ ss)) _ _ found.is_open ready.tracked) j d within)

  -- the request with that place failed
  own_tracked : (outs' : List Piece) (o' : OpenRequest) → o'.number ≡ o.number → o'.request ≡ o.request → o'.cancelled ≡ false → length o'.marks ≡ length o.marks
      → (b : Blow status) → mark_at o' k ≡ Failed (status_of_completion b.completion) → ((j : ℕ) → j ≢ k → mark_at o' j ≡ mark_at o j) → Track rules after outs' (e ∷ sp) ss o'
  own_tracked outs' o' number request waits long b there elsewhere = subst (λ m. IsTracked rules after outs' (e ∷ sp) (ending m (labels_till ss)) o') (sym number) (record {
    waits = waits;
    started = started_at o' k (rw long inside) (ap is_untouched there);
    taken = ap (refused rules) request ∙ mine.taken;
    carries = subst (λ q. length q.bytes ≡ bytes_carried q.kind q.length) (sym request) mine.carries;
    places = long ∙ mine.places ∙ ap (λ q. place_count rules q) (sym request);
    suits = λ j within. elim (cases_eq j k) [
      | inl is ↦ subst (Suits status (e ∷ sp) o' j) (sym (ap (λ m. mark_at o' m) is ∙ there)) (suits j is)
      | inr other ↦ subst (Suits status (e ∷ sp) o' j) (sym (elsewhere j other)) (as_before j (mark_at o j) (mine.suits j (rw long at within)))
    ];
    at_places = λ i j at. elim (cases_eq j k) [
      | inl is ↦ record {
        fresh = λ d. absurd (All-head (IsNoFailure o'.number j) e (cells i).past d.failure (sym found.is_number ∙ sym number) (sym is));
        done = λ success sector has size. absurd (never i j at is sector has);
      }
      | inr other ↦
          let old : IsAtPlace rules i (cells i).past status o j = mine.at_places i j (subst (λ q. IsAt rules i q j) request at) in
          record {
            fresh = λ d. subst IsUnsent (sym (elsewhere j other)) (old.fresh (subst (λ m. IsIdle rules i (cells i).past m o.request j) number (subst (λ q. IsIdle rules i (cells i).past o'.number q j) request
                (record { effect = λ a. All-tail (IsNoEffect o'.number) e (cells i).past (d.effect a); failure = All-tail (IsNoFailure o'.number j) e (cells i).past d.failure }))));
            done = λ success sector has size. elsewhere j other ∙ old.done success sector
                (subst (λ m. Contains (cells i).past (Effect m sector)) number (behind_first e (Effect o'.number sector) (cells i).past (λ f. cc (f)) has)) (λ read. size (ap (λ q. q.kind) request ∙ read));
          }
    ];
    named = λ q has. request ∙ mine.named q (subst (λ m. Contains sp (Seen (Told (Call m q)))) number (behind_first e (Seen (Told (Call o'.number q))) sp (λ f. cc (f)) has));
    flushes = λ flush none. absurd (All-head (IsNoFailure o'.number 0) e sp none (sym found.is_number ∙ sym number) (only_place flush));
    waiting = λ flush out. absurd (not_out (sym there ∙ ap (λ m. mark_at o' m) (only_place flush) ∙ out));
  })
    where
      suits : (j : ℕ) → j ≡ k → Suits status (e ∷ sp) o' j (Failed (status_of_completion b.completion))
      suits j is = elim b.told [
        | inl h ↦ inl h
        | inr success ↦ inr (success, λ all. All-head (IsNoFailure o'.number j) e sp all (sym found.is_number ∙ sym number) (sym is))
      ]

      as_before : (j : ℕ) (mark : Mark) → Suits status sp o j mark → Suits status (e ∷ sp) o' j mark
      as_before j Untouched h = h
      as_before j Back h = h
      as_before j (Done x) h = h
      as_before j (Failed x) (inl h) = inl h
      as_before j (Failed x) (inr h) = inr (h.0, λ all. h.1 (subst (λ m. All (IsNoFailure m j) sp) number (All-tail (IsNoFailure o'.number j) e sp all)))
      as_before j Out h = ap (λ q. q.kind) request ∙ h

      never : (i j : ℕ) → IsAt rules i o'.request j → j ≡ k → (sector : List ℕ) → Contains (e ∷ (cells i).past) (Effect o'.number sector) → ⊥
      never i j at is sector has =
          let there' : IsAt rules i (t i).request k = subst (λ q. IsAt rules i q k) (request ∙ same i) (subst (λ m. IsAt rules i o'.request m) is at) in
          let in_past : Contains (cells i).past (Effect n sector) =
          subst (λ m. Contains (cells i).past (Effect m sector)) (number ∙ found.is_number) (behind_first e (Effect o'.number sector) (cells i).past (λ f. cc (f)) has) in
          All-contains (IsNoEffect n) (cells i).past (Effect n sector) ((t i).idle.effect there') in_past refl

      not_out : {status' : NtStatus} → Failed status' ≡ Out → ⊥
      not_out f = cc (f)

      only_place : o'.request.kind ≡ Flush → k ≡ 0
      only_place flush = let one : place_count rules o.request ≡ 1 = flush_places rules o.request (ap (λ q. q.kind) (sym request) ∙ flush) in let l = low in omega arith

  passes : (piece' : ℕ) (requests' : List OpenRequest) (outs' : List Piece) (table' : Table) → Goes (storing rules depth) (moment (standing arrays next piece requests outs) table) [] (moment (standing arrays next piece' requests' outs') table')
      → All (Track rules after outs' (e ∷ sp) ss) requests' → ((m : ℕ) (q : ClientRequest) → IsOpenHere requests m q → IsOpenHere requests' m q) → ((i : ℕ) → Has outs' (table' i) (held i))
      → ((Q : Piece → Type 0) → All Q outs → All Q outs') → length outs' ≤ length outs → Passes rules depth asked (e ∷ sp) ss [] arrays next piece requests outs table
  passes piece' requests' outs' table' goes tracked stays has fewer short = record {
    cells' = after;
    next' = next;
    piece' = piece';
    requests' = requests';
    outs' = outs';
    table' = table';
    goes = goes;
    ready = record {
      count = ready.count;
      distinct = goes_distinct (storing rules depth) (moment (standing arrays next piece requests outs) table) (moment (standing arrays next piece' requests' outs') table') ready.distinct goes;
      tracked = tracked;
      courses = seen_courses rules asked cells sp ss arrays next piece requests outs table e ready caught shared next outs' table' (omega arith)
          (All-contains (IsBelow next) (cells 0).past (Seen (Told (Call n (t 0).request))) (ready.courses 0).given (t 0).is_open.called) (λ past number. number) has;
      opens = λ m q has_call awaits taken. stays m q (ready.opens m q (behind_first e (Seen (Told (Call m q))) sp (λ f. cc (f)) has_call) (All-tail (IsNoAnswer m) e sp awaits) taken);
      awaited = λ m a there. let w = ready.awaited m a there in (w.0, stays m w.0 w.1, w.2);
      owners = fewer (λ p. p.owner < next) ready.owners;
    };
    space = omega arith;
  }

  has_after : (outs' : List Piece) (from : ℕ) (i : ℕ) → Has outs' (table i) (cells i).held
      → Has outs' (changed_by from (fault_changes rules.sector_size (work_of (storing rules depth) o.request (one_place k)) i) (table i)) (held i)
  has_after outs' from i has =
      subst (Has outs' (changed_by from (fault_changes rules.sector_size (work_of (storing rules depth) o.request (one_place k)) i) (table i))) (sym (held_is i))
      (has_failed outs' from next (fault_changes rules.sector_size (work_of (storing rules depth) o.request (one_place k)) i) (table i) (cells i).held (fault_fails (storing rules depth) i o.request (one_place k)) has)

  in_turn : All (IsInTurn o) requests
  in_turn = All-weaker (Track rules cells outs sp (e ∷ ss)) (IsInTurn o) (λ x t lower waits. t.started) requests ready.tracked

  -- a place of a read or a write
  transfer_passes : is_transfer o.request.kind ≡ true → Passes rules depth asked (e ∷ sp) ss [] arrays next piece requests outs table
  transfer_passes transfer =
      let free : (tag : ℕ) × IsLowestFreeTag depth outs tag = lowest_free depth outs space in
      let block : BlockOf (command_for (storing rules depth) o.request (one_place k) o.request.kind) = block_at rules o.request k room mine.taken low in
      let goes : Goes (storing rules depth) (moment (standing arrays next piece requests outs) table) []
      (moment (standing arrays next (piece + 1) (remarked k (Bad b.completion) (Failed (status_of_completion b.completion)) o ∷ found.others) outs)
      (failed_table rules depth arrays next piece requests found.others outs table o k free.0 found.is_open in_turn mine.waits inside unsent free.1 block)) =
      fails rules depth arrays next piece requests found.others outs table o k free.0 found.is_open in_turn mine.waits inside unsent free.1 block (Bad b.completion) (Failed (status_of_completion b.completion)) (b.is_bad, refl) in
      passes (piece + 1) (remarked k (Bad b.completion) (Failed (status_of_completion b.completion)) o ∷ found.others) outs
      (failed_table rules depth arrays next piece requests found.others outs table o k free.0 found.is_open in_turn mine.waits inside unsent free.1 block) goes
      (All-cons (Track rules after outs (e ∷ sp) ss) (remarked k (Bad b.completion) (Failed (status_of_completion b.completion)) o) found.others
      (own_tracked outs (remarked k (Bad b.completion) (Failed (status_of_completion b.completion)) o) refl refl mine.waits
      (remarked_length k (Bad b.completion) (Failed (status_of_completion b.completion)) o inside) b
      (remarked_there k (Bad b.completion) (Failed (status_of_completion b.completion)) o inside)
      (remarked_elsewhere k (Bad b.completion) (Failed (status_of_completion b.completion)) o inside))
      (others_tracked outs (λ x other f. f)))
      (still_open requests found.others o (remarked k (Bad b.completion) (Failed (status_of_completion b.completion)) o) found.is_open refl refl)
      (λ i. has_after outs (piece + 1) i (ready.courses i).has) (λ Q all. all) (omega arith)
    where
      b : Blow status
      b = blow status (bound o.number)

      i : ℕ
      i = sector_of rules o.request k

      at : IsAt rules (sector_of rules o.request k) o.request k
      at = record { admitted = admits; transfer = transfer; sector = refl; inside = low }

      unsent : IsUnsent (mark_at o k)
      unsent = (mine.at_places (sector_of rules o.request k) k at).fresh
          (subst (λ m. IsIdle rules (sector_of rules o.request k) (cells (sector_of rules o.request k)).past m o.request k) (sym found.is_number)
          (subst (λ q. IsIdle rules (sector_of rules o.request k) (cells (sector_of rules o.request k)).past n q k) (sym (same (sector_of rules o.request k))) (t (sector_of rules o.request k)).idle))

  -- a flush
  flush_passes : o.request.kind ≡ Flush → Passes rules depth asked (e ∷ sp) ss [] arrays next piece requests outs table
  flush_passes flush = by_place (flush_at_zero flush)
    where
      flush_at_zero : o.request.kind ≡ Flush → k ≡ 0
      flush_at_zero f = let one : place_count rules o.request ≡ 1 = flush_places rules o.request f in let l = low in omega arith

      b : Blow status
      b = blow status (bound o.number)

      by_place : k ≡ 0 → Passes rules depth asked (e ∷ sp) ss [] arrays next piece requests outs table
      by_place zero_is =
          let f : IsOutFlush outs o = mine.flushes flush (subst (λ m. All (IsNoFailure o.number m) sp) zero_is unfailed) in
          let out : (others : List Piece) × IsPermutation outs (flush_piece f.number f.tag o.number ∷ others) = taken_out outs (flush_piece f.number f.tag o.number) f.is_out in
          let low' : 0 < length o.marks = subst (λ m. m < length o.marks) zero_is inside in
          passes piece (given_back (flush_piece f.number f.tag o.number) (Bad b.completion) (Failed (status_of_completion b.completion) ∷ []) o ∷ found.others) out.0
          (λ i. changed_by piece (fault_changes rules.sector_size (work_of (storing rules depth) o.request (one_place 0)) i) (table i))
          (flush_fails rules depth arrays next piece requests found.others outs out.0 table o (flush_piece f.number f.tag o.number) found.is_open out.1 refl refl (Bad b.completion)
          (Failed (status_of_completion b.completion) ∷ []) (b.is_bad, refl))
          (All-cons (Track rules after out.0 (e ∷ sp) ss) (given_back (flush_piece f.number f.tag o.number) (Bad b.completion) (Failed (status_of_completion b.completion) ∷ []) o) found.others
          (own_tracked out.0 (given_back (flush_piece f.number f.tag o.number) (Bad b.completion) (Failed (status_of_completion b.completion) ∷ []) o) refl refl mine.waits
          (length-splice o.marks 0 (Failed (status_of_completion b.completion) ∷ []) (omega arith)) b
          (subst (λ m. get_or (splice o.marks 0 (Failed (status_of_completion b.completion) ∷ [])) m Untouched ≡ Failed (status_of_completion b.completion)) (sym zero_is)
          (get_or-splice_inside o.marks 0 (Failed (status_of_completion b.completion) ∷ []) 0 Untouched (omega arith) (omega arith) (omega arith)))
          (λ j other. get_or-splice_above o.marks 0 (Failed (status_of_completion b.completion) ∷ []) j Untouched (omega arith) (above_zero j zero_is other)))
          (others_tracked out.0 (λ x other g. other_flush outs out.0 f.number f.tag o.number out.1 x (λ is. other (is ∙ found.is_number)) g)))
          (still_open requests found.others o (given_back (flush_piece f.number f.tag o.number) (Bad b.completion) (Failed (status_of_completion b.completion) ∷ []) o) found.is_open refl refl)
          (λ i. subst (λ m. Has out.0 (changed_by piece (fault_changes rules.sector_size (work_of (storing rules depth) o.request (one_place m)) i) (table i)) (held i)) zero_is
          (has_after out.0 piece i (has_fewer outs out.0 (λ Q all. All-tail Q (flush_piece f.number f.tag o.number) out.0 (All-permutation Q _ _ out.1 all)) (table i) (cells i).held (ready.courses i).has)))
          (λ Q all. All-tail Q (flush_piece f.number f.tag o.number) out.0 (All-permutation Q _ _ out.1 all))
          (shorter outs out.0 (flush_piece f.number f.tag o.number) out.1)
        where
          above_zero : (j : ℕ) → k ≡ 0 → j ≢ k → 1 ≤ j
          above_zero zero zero_is other = absurd (other (sym zero_is))
          above_zero (suc j) zero_is other = omega arith

          shorter : (xs ys : List Piece) (p : Piece) → IsPermutation xs (p ∷ ys) → length ys ≤ length xs
          shorter xs ys p perm = let long : suc (length ys) ≡ length xs = length_permutation xs (p ∷ ys) perm in omega arith

  pub failure_passes : Passes rules depth asked (e ∷ sp) ss [] arrays next piece requests outs table
  failure_passes = by_kind o.request.kind refl
    where
      by_kind : (kind : Kind) → o.request.kind ≡ kind → Passes rules depth asked (e ∷ sp) ss [] arrays next piece requests outs table
      by_kind Read is = transfer_passes (ap is_transfer is)
      by_kind Write is = transfer_passes (ap is_transfer is)
      by_kind Flush is = flush_passes is
