-- A call opens its request, whose first place starts: that of a flush stays out, and any other comes back busy.
use Rattle.std.proofs.Common.{◌≡◌, ◌≢◌, ◌<◌, ◌≤◌, inl, inr, ℕ, zero, suc, ◌+◌, List, [], ◌∷◌, ◌++◌, true, Option, Some, None, refl, sym, ◌∙◌, ap, subst, arith, length, get_or, replicate, length-append}
use Rattle.std.specs.Prelude.{All, Contains}
use Rattle.std.proofs.lemmas.Bool.{cases_lt, cases_eq}
use Rattle.std.proofs.lemmas.List.{length-replicate, get_or-replicate, get_or_past}
use Rattle.std.proofs.lemmas.List.Sorted.{IsPermutation-refl}
use Rattle.std.proofs.lemmas.List.Elements.{All-cons, All-tail, All-contains, All-weaker}
use Rattle.sector.specs.Splice.{splice}
use Rattle.sector.proofs.Splicing.{length-splice}
use Rattle.srb.specs.declared.Kind.{Kind}
use Rattle.srb.specs.declared.Kind.TheVariants.{Read, Write, Flush}
use Rattle.srb.specs.declared.Class.TheVariants.{Busy}
use Rattle.machine.specs.declared.ClientRequest.{ClientRequest}
use Rattle.machine.specs.declared.Label.TheVariants.{Call}
use Rattle.machine.specs.Rules.{Rules, is_transfer, place_count}
use Rattle.machine.specs.State.{Mark, Untouched, Out, Back, OpenRequest, Piece}
use Rattle.machine.specs.Calling.{refusal, bytes_carried, new_request, Opens, Admits}
use Rattle.machine.specs.Cutting.{mark_at}
use Rattle.machine.specs.Sending.{IsUnsent, IsInTurn, IsLowestFreeTag, is_untouched, sent}
use Rattle.machine.proofs.Placed.{get_or-splice_inside}
use Rattle.machine.proofs.Same.{IsSame-refl}
use Rattle.history_laws.specs.declared.Asked.{Asked}
use Rattle.history_laws.specs.Fitting.{refused, asked_of}
use Rattle.history_runs.specs.Laws.{IsAddressable}
use Rattle.history_runs.proofs.Admitted.{admitted, refusal_is}
use Rattle.history_runs.proofs.Calling.{block_at}
use Rattle.history_runs.proofs.Failing.{ending}
use Rattle.history_runs.proofs.Marks.{remarked_length, remarked_there, remarked_elsewhere, started_at}
use Rattle.history_runs.proofs.Seeing.{asked_more}
use Rattle.history_runs.proofs.Steps.{remarked}
use Rattle.history_runs.proofs.Tracking.{IsOpenHere}
use Rattle.loss.specs.Held.{Held}
use Rattle.loss.specs.Moved.{Table}
use Rattle.loss.specs.Sessions.{Told, LineStep}
use Rattle.history_loss.specs.Schedules.{Event, Seen, Effect, IsNoAnswer, next_number, one_place}
use Rattle.history_loss.proofs.Mirroring.{IsBelow, further, newest}
use Rattle.history_loss.proofs.Calling.{above_same}
use Rattle.history_loss.proofs.Holding.{AllOlder}
use Rattle.history_loss_runs.proofs.Having.{Has, has_more}
use Rattle.history_loss_runs.proofs.Steps.{Goes, comes_back, goes_line, goes_then, moment, standing, stays_out, storing}
use Rattle.history_loss_runs.proofs.Tags.{lowest_free}
use Rattle.history_loss_runs.proofs.Tracking.{Cells, IsOutFlush, Ready, Suits, Track, all_shared, flush_piece, labels_till}
use Rattle.history_loss_runs.proofs.Advancing.{seen_distinct, told_one}
use Rattle.history_loss_runs.proofs.Catching.{IsCaughtUp}
use Rattle.history_loss_runs.proofs.Failures.{flush_places}
use Rattle.history_loss_runs.proofs.Sharing.{IsShared, Passes, behind_first, helds, seen_cells, seen_courses, seen_track, takes}

some_is : {a b : Asked} → Some a ≡ Some b → a ≡ b
some_is e = cc (e)

call_is : {n m : ℕ} {q r : ClientRequest} → Seen (Told (Call n q)) ≡ Seen (Told (Call m r)) → (n ≡ m) × (q ≡ r)
call_is e = (cc (e), cc (e))

replicate_is : (n k : ℕ) → get_or (replicate n Untouched) k Untouched ≡ Untouched
replicate_is n k = elim (cases_lt k n) [
  | inl low ↦ get_or-replicate n k Untouched Untouched low
  | inr past ↦ get_or_past (replicate n Untouched) k Untouched (rw (length-replicate n Untouched) past)
]

module _ (rules : Rules) (depth : ℕ) (room : IsAddressable rules) (asked : List (Option Asked)) (cells : Cells) (sp ss : List Event) (arrays : List (List (List ℕ))) (next piece : ℕ) (requests : List OpenRequest) (outs : List Piece) (table : Table)
    (n : ℕ) (q : ClientRequest) (ready : Ready rules asked cells sp (Seen (Told (Call n q)) ∷ ss) arrays next piece requests outs table) (caught : (i : ℕ) → IsCaughtUp (cells i).rest) (space : length outs < depth)
    (number : n ≡ next) (taken : refused rules q ≡ None) (carries : length q.bytes ≡ bytes_carried q.kind q.length) where
  abbrev e : Event
  e = Seen (Told (Call n q))

  shared : IsShared e
  shared = record { plain = λ past. refl; shares = λ past. refl; no_effect = λ m sector f. cc (f) }

  abbrev held : ℕ → Held
  held = helds rules asked cells sp ss arrays next piece requests outs table e ready caught shared

  held_is : (i : ℕ) → held i ≡ (cells i).held
  held_is i = takes rules asked cells sp ss arrays next piece requests outs table e ready caught shared i

  abbrev after : Cells
  after = seen_cells e held cells

  abbrev new : OpenRequest
  new = new_request (storing rules depth) (standing arrays next piece requests outs) n q

  step : LineStep (storing rules depth) (moment (standing arrays next piece requests outs) table) (Told (Call n q)) (moment (standing arrays (n + 1) piece (new ∷ requests) outs) table)
  step =
      let allowed : refusal (storing rules depth) (standing arrays next piece requests outs) q ≡ None = refusal_is rules (standing arrays next piece requests outs) q refl ∙ taken in
      let opens : Opens (storing rules depth) (standing arrays next piece requests outs) n q (standing arrays (n + 1) piece (new ∷ requests) outs) =
      record { new_number = omega arith; not_refused = allowed; carries = carries; after = IsSame-refl _ } in
      (inl (refl, record { next_number = number; admits = subst (λ answer. Admits (storing rules depth) (standing arrays next piece requests outs) n q answer (standing arrays (n + 1) piece (new ∷ requests) outs)) (sym allowed) opens }), λ i. refl)

  some : 0 < place_count rules q
  some = (admitted rules q taken).some

  inside : 0 < length new.marks
  inside = rw (length-replicate (place_count (storing rules depth) q) Untouched) some

  others_seen : (outs' : List Piece) → ((x : OpenRequest) → IsOutFlush outs x → IsOutFlush outs' x) → All (Track rules after outs' (e ∷ sp) ss) requests
  others_seen outs' out j d low =
      let x : OpenRequest = get_or requests j d in
      let given : x.number < next = ready.distinct.given j d low in
      seen_track rules cells e held outs outs' sp shared (ending x.number (labels_till ss)) x (λ r f. let same : n ≡ x.number = (call_is f).0 in absurd (omega arith)) (out x) (ready.tracked j d low)

  in_turn : All (IsInTurn new) (new ∷ requests)
  in_turn = All-cons (IsInTurn new) new requests (λ lower waits. absurd (omega arith)) (All-weaker (Track rules cells outs sp (e ∷ ss)) (IsInTurn new) (λ x t lower waits. t.started) requests ready.tracked)

  -- no event so far has its number
  past_below : (i : ℕ) → All (IsBelow next) (cells i).past
  past_below i = (ready.courses i).given

  sp_below : All (IsBelow next) sp
  sp_below = subst (All (IsBelow next)) (ready.courses 0).past_shared (all_shared (IsBelow next) (cells 0).past (past_below 0))

  no_effect : (i : ℕ) (sector : List ℕ) → Contains (e ∷ (cells i).past) (Effect n sector) → ⊥
  no_effect i sector has =
      let below : n < next = All-contains (IsBelow next) (cells i).past (Effect n sector) (past_below i) (behind_first e (Effect n sector) (cells i).past (λ f. cc (f)) has) in
      absurd (omega arith)

  own_call : (r : ClientRequest) → Contains (e ∷ sp) (Seen (Told (Call n r))) → q ≡ r
  own_call r (zero, low, is) = (call_is is).1
  own_call r (suc k, low, is) =
      let below : n < next = All-contains (IsBelow next) sp (Seen (Told (Call n r))) sp_below (k, omega arith, is) in
      absurd (omega arith)

  -- where its first place started
  passes : (piece' : ℕ) (o' : OpenRequest) (outs' : List Piece) → o'.number ≡ n → o'.request ≡ q → Goes (storing rules depth) (moment (standing arrays (n + 1) piece (new ∷ requests) outs) table) [] (moment (standing arrays (n + 1) piece' (o' ∷ requests) outs') table)
      → Track rules after outs' (e ∷ sp) ss o' → ((x : OpenRequest) → IsOutFlush outs x → IsOutFlush outs' x) → ((i : ℕ) → Has outs' (table i) (cells i).held) → All (λ p. p.owner < n + 1) outs' → length outs' ≤ length outs + 1
      → Passes rules depth (asked ++ Some (asked_of q) ∷ []) (e ∷ sp) ss (Told (Call n q) ∷ []) arrays next piece requests outs table
  passes piece' o' outs' is_number is_request goes own out has owners short =
      let all : Goes (storing rules depth) (moment (standing arrays next piece requests outs) table) (Told (Call n q) ∷ []) (moment (standing arrays (n + 1) piece' (o' ∷ requests) outs') table) =
      goes_then (storing rules depth) (moment (standing arrays next piece requests outs) table) (moment (standing arrays (n + 1) piece (new ∷ requests) outs) table) (moment (standing arrays (n + 1) piece' (o' ∷ requests) outs') table)
      (Told (Call n q) ∷ []) [] (goes_line (storing rules depth) (moment (standing arrays next piece requests outs) table) (moment (standing arrays (n + 1) piece (new ∷ requests) outs) table) (Told (Call n q)) tt refl step) goes in
      record {
        cells' = after;
        next' = n + 1;
        piece' = piece';
        requests' = o' ∷ requests;
        outs' = outs';
        table' = table;
        goes = all;
        ready = record {
          count = ap (λ m. m + 1) (number ∙ ready.count) ∙ sym (length-append asked (Some (asked_of q) ∷ []));
          distinct = seen_distinct (storing rules depth) (moment (standing arrays next piece requests outs) table) (moment (standing arrays (n + 1) piece' (o' ∷ requests) outs') table) (Told (Call n q) ∷ []) (told_one (Call n q)) ready.distinct all;
          tracked = All-cons (Track rules after outs' (e ∷ sp) ss) o' requests own (others_seen outs' out);
          courses = seen_courses rules asked cells sp ss arrays next piece requests outs table e ready caught shared (n + 1) outs' table (omega arith) (omega arith)
              (λ past same. above_same n (next_number past) (same ∙ sym number)) (λ i. subst (Has outs' (table i)) (sym (held_is i)) (has i));
          opens = λ m r called awaits taken'. opens_here m r called awaits taken';
          awaited = λ m a there. elim (asked_more asked (Some (asked_of q)) m a there) [
            | inl old ↦ let w = ready.awaited m a old in (w.0, (w.1.0, further o' requests w.1.0 w.1.1, w.1.2, w.1.3), w.2)
            | inr (last, is) ↦ (q, (o', newest o' requests, is_number ∙ number ∙ ready.count ∙ sym last, is_request), some_is is)
          ];
          owners = owners;
        };
        space = short;
      }
    where
      opens_here : (m : ℕ) (r : ClientRequest) → Contains (e ∷ sp) (Seen (Told (Call m r))) → All (IsNoAnswer m) (e ∷ sp) → refused rules r ≡ None → IsOpenHere (o' ∷ requests) m r
      opens_here m r (zero, low, is) awaits taken' = (o', newest o' requests, is_number ∙ (call_is is).0, is_request ∙ (call_is is).1)
      opens_here m r (suc k, low, is) awaits taken' =
          let old : IsOpenHere requests m r = ready.opens m r (k, omega arith, is) (All-tail (IsNoAnswer m) e sp awaits) taken' in
          (old.0, further o' requests old.0 old.1, old.2, old.3)

  owners_more : All (λ p. p.owner < n + 1) outs
  owners_more = All-weaker (λ p. p.owner < next) (λ p. p.owner < n + 1) (λ p low. omega arith) outs ready.owners

  -- A READ OR A WRITE

  transfer_passes : (q.kind ≡ Flush → ⊥) → Passes rules depth (asked ++ Some (asked_of q) ∷ []) (e ∷ sp) ss (Told (Call n q) ∷ []) arrays next piece requests outs table
  transfer_passes no_flush =
      let free : (tag : ℕ) × IsLowestFreeTag depth outs tag = lowest_free depth outs space in
      passes (piece + 1) (remarked 0 Busy Back new) outs refl refl
      (comes_back rules depth arrays (n + 1) piece (new ∷ requests) requests outs table new 0 free.0 (IsPermutation-refl _) in_turn refl inside (rw (replicate_is (place_count (storing rules depth) q) 0) refl) free.1
      (block_at rules q 0 room taken some))
      own (λ x f. f) (λ i. (ready.courses i).has) owners_more (omega arith)
    where
      there : mark_at (remarked 0 Busy Back new) 0 ≡ Back
      there = remarked_there 0 Busy Back new inside

      elsewhere : (k : ℕ) → k ≢ 0 → mark_at (remarked 0 Busy Back new) k ≡ Untouched
      elsewhere k other = remarked_elsewhere 0 Busy Back new inside k other ∙ replicate_is (place_count (storing rules depth) q) k

      both : (P : Mark → Type 0) → P Back → P Untouched → (k : ℕ) → P (mark_at (remarked 0 Busy Back new) k)
      both P b u k = elim (cases_eq k 0) [
        | inl same ↦ subst (λ m. P (mark_at (remarked 0 Busy Back new) m)) (sym same) (subst P (sym there) b)
        | inr other ↦ subst P (sym (elsewhere k other)) u
      ]

      own : Track rules after outs (e ∷ sp) ss (remarked 0 Busy Back new)
      own = record {
        waits = refl;
        started = started_at (remarked 0 Busy Back new) 0 (rw (remarked_length 0 Busy Back new inside) inside) (ap is_untouched there);
        taken = taken;
        carries = carries;
        places = remarked_length 0 Busy Back new inside ∙ length-replicate (place_count (storing rules depth) q) Untouched;
        suits = λ k low. both (Suits (ending n (labels_till ss)) (e ∷ sp) (remarked 0 Busy Back new) k) tt tt k;
        at_places = λ i k at. record {
          fresh = λ d. both IsUnsent refl refl k;
          done = λ success sector has size. absurd (no_effect i sector has);
        };
        named = λ r has. own_call r has;
        flushes = λ flush none. absurd (no_flush flush);
        waiting = λ flush out. absurd (no_flush flush);
      }

  -- A FLUSH

  flush_passes : q.kind ≡ Flush → Passes rules depth (asked ++ Some (asked_of q) ∷ []) (e ∷ sp) ss (Told (Call n q) ∷ []) arrays next piece requests outs table
  flush_passes flush =
      let free : (tag : ℕ) × IsLowestFreeTag depth outs tag = lowest_free depth outs space in
      passes (piece + 1) (sent (one_place 0) new) (flush_piece piece free.0 n ∷ outs) refl refl
      (stays_out rules depth arrays (n + 1) piece (new ∷ requests) requests outs table new 0 free.0 (IsPermutation-refl _) in_turn refl inside (rw (replicate_is (place_count (storing rules depth) q) 0) refl) free.1
      (block_at rules q 0 room taken some))
      (own free.0) (λ x f. record { number = f.number; tag = f.tag; is_out = further (flush_piece piece free.0 n) outs (flush_piece f.number f.tag x.number) f.is_out; mark = f.mark })
      (λ i. has_more outs (flush_piece piece free.0 n) (table i) (cells i).held (subst (λ m. AllOlder (λ o. o.behind ≤ m) (cells i).held.older) (sym number) (ready.courses i).dated) (ready.courses i).has)
      (All-cons (λ p. p.owner < n + 1) (flush_piece piece free.0 n) outs (omega arith) owners_more) (omega arith)
    where
      out_mark : mark_at (sent (one_place 0) new) 0 ≡ Out
      out_mark = let low = inside in get_or-splice_inside new.marks 0 (Out ∷ []) 0 Untouched (omega arith) (omega arith) (omega arith)

      long : length (splice new.marks 0 (Out ∷ [])) ≡ length new.marks
      long = let low = inside in length-splice new.marks 0 (Out ∷ []) (omega arith)

      count : length new.marks ≡ 1
      count = length-replicate (place_count (storing rules depth) q) Untouched ∙ flush_places rules q flush

      only : (k : ℕ) → k < length (splice new.marks 0 (Out ∷ [])) → 0 ≡ k
      only k low = let a = long in let b = count in omega arith

      own : (tag : ℕ) → Track rules after (flush_piece piece tag n ∷ outs) (e ∷ sp) ss (sent (one_place 0) new)
      own tag = record {
        waits = refl;
        started = started_at (sent (one_place 0) new) 0 (rw long inside) (ap is_untouched out_mark);
        taken = taken;
        carries = carries;
        places = long ∙ length-replicate (place_count (storing rules depth) q) Untouched;
        suits = λ k low. subst (λ m. Suits (ending n (labels_till ss)) (e ∷ sp) (sent (one_place 0) new) m (mark_at (sent (one_place 0) new) m)) (only k low)
            (subst (Suits (ending n (labels_till ss)) (e ∷ sp) (sent (one_place 0) new) 0) (sym out_mark) flush);
        at_places = λ i k at. let t : is_transfer q.kind ≡ true = at.transfer in absurd (cc (ap is_transfer flush, t));
        named = λ r has. own_call r has;
        flushes = λ f none. record { number = piece; tag = tag; is_out = newest (flush_piece piece tag n) outs; mark = out_mark };
        waiting = λ f out. record { number = piece; tag = tag; is_out = newest (flush_piece piece tag n) outs; mark = out_mark };
      }

  pub call_passes : Passes rules depth (asked ++ Some (asked_of q) ∷ []) (e ∷ sp) ss (Told (Call n q) ∷ []) arrays next piece requests outs table
  call_passes = by_kind q.kind refl
    where
      by_kind : (kind : Kind) → q.kind ≡ kind → Passes rules depth (asked ++ Some (asked_of q) ∷ []) (e ∷ sp) ss (Told (Call n q) ∷ []) arrays next piece requests outs table
      by_kind Read is = transfer_passes (λ f. cc (is, f))
      by_kind Write is = transfer_passes (λ f. cc (is, f))
      by_kind Flush is = flush_passes is
