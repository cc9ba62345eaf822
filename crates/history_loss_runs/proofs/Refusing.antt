-- A refused call and its answer come together; in the schedules events of other requests may stand between them.
use Rattle.std.proofs.Common.{◌≡◌, ◌≢◌, ◌<◌, inl, inr, ℕ, zero, suc, ◌+◌, ◌&&◌, ◌==◌, not, Bool, true, false, List, [], ◌∷◌, ◌++◌, Option, Some, None, refl, sym, ◌∙◌, ap, subst, arith, get_or, length-append}
use Rattle.std.specs.Prelude.{All, Contains, is_none}
use Rattle.std.proofs.lemmas.List.Elements.{All-contains, All-tail, All-weaker}
use Rattle.ntstatus.specs.declared.NtStatus.{NtStatus}
use Rattle.ntstatus.specs.declared.NtStatus.TheVariants.{Success, InvalidHandle, InvalidParameter}
use Rattle.ntstatus.specs.First.{when, first_some}
use Rattle.srb.specs.declared.Kind.{Kind}
use Rattle.srb.specs.declared.Kind.TheVariants.{Read, Write, Flush}
use Rattle.machine.specs.declared.ClientRequest.{ClientRequest}
use Rattle.machine.specs.declared.Label.TheVariants.{Call, Answer}
use Rattle.machine.specs.Rules.{Rules, is_in_bounds, is_transfer}
use Rattle.machine.specs.State.{OpenRequest, Piece, State}
use Rattle.machine.specs.Calling.{refusal, Admits, Refuses}
use Rattle.machine.proofs.Same.{IsSame-refl}
use Rattle.history_laws.specs.declared.Asked.{Asked}
use Rattle.history_laws.specs.Fitting.{refused}
use Rattle.history_runs.proofs.Admitted.{refusal_is}
use Rattle.history_runs.proofs.Failing.{ending, other_ending}
use Rattle.history_runs.proofs.Seeing.{asked_more}
use Rattle.history_runs.proofs.Tracking.{IsOpenHere}
use Rattle.loss.specs.Held.{Held}
use Rattle.loss.specs.Moved.{Table}
use Rattle.loss.specs.Sessions.{Told, LineStep}
use Rattle.history_loss.specs.Schedules.{Event, Seen, IsAnswer, IsNoAnswer, answered, next_number}
use Rattle.history_loss.proofs.Mirroring.{IsBelow, newest}
use Rattle.history_loss.proofs.Calling.{above_same}
use Rattle.history_loss_runs.proofs.Having.{Has}
use Rattle.history_loss_runs.proofs.Steps.{Goes, goes_line, goes_nowhere, goes_then, moment, standing, storing}
use Rattle.history_loss_runs.proofs.Tracking.{Cells, IsTracked, Ready, Track, all_shared, labels_till, shared_seen}
use Rattle.history_loss_runs.proofs.Advancing.{seen_distinct, told_two}
use Rattle.history_loss_runs.proofs.Catching.{IsCaughtUp}
use Rattle.history_loss_runs.proofs.Sharing.{IsShared, Passes, behind_first, helds, seen_cells, seen_courses, seen_track, takes}

call_is : {n m : ℕ} {q r : ClientRequest} → Seen (Told (Call n q)) ≡ Seen (Told (Call m r)) → (n ≡ m) × (q ≡ r)
call_is e = (cc (e), cc (e))

-- no flush is refused with a success
flush_refused : (rules : Rules) (q : ClientRequest) → q.kind ≡ Flush → refused rules q ≡ Some Success → ⊥
flush_refused rules q flush why = by_tests (is_none q.partition) (is_transfer q.kind) (not (is_in_bounds rules q)) (q.length == 0) (ap is_transfer flush) why
  where
    by_tests : (unknown t unbound empty : Bool) → t ≡ false → first_some (when unknown InvalidHandle ∷ when (t && unbound) InvalidParameter ∷ when (t && empty) Success ∷ []) ≡ Some Success → ⊥
    by_tests true t unbound empty e why = cc (why)
    by_tests false true unbound empty e why = cc (e)
    by_tests false false unbound empty e why = cc (why)

-- what is known of a refused call while its answer is to come
pub record IsRefused (rules : Rules) (sp : List Event) (n : ℕ) (q : ClientRequest) (status : NtStatus) : Type 0 where
  pub why : refused rules q ≡ Some status
  pub called : Contains sp (Seen (Told (Call n q)))
  pub only : (r : ClientRequest) → Contains sp (Seen (Told (Call n r))) → q ≡ r

module _ (rules : Rules) (depth : ℕ) (asked : List (Option Asked)) (cells : Cells) (sp ss : List Event) (arrays : List (List (List ℕ))) (next piece : ℕ) (requests : List OpenRequest) (outs : List Piece) (table : Table)
    (n : ℕ) (q : ClientRequest) (ready : Ready rules asked cells sp (Seen (Told (Call n q)) ∷ ss) arrays next piece requests outs table) (caught : (i : ℕ) → IsCaughtUp (cells i).rest)
    (status : NtStatus) (number : n ≡ next) (why : refused rules q ≡ Some status) (none : q.bytes ≡ []) where
  abbrev e : Event
  e = Seen (Told (Call n q))

  shared : IsShared e
  shared = record { plain = λ past. refl; shares = λ past. refl; no_effect = λ m sector f. cc (f) }

  abbrev held : ℕ → Held
  held = helds rules asked cells sp ss arrays next piece requests outs table e ready caught shared

  held_is : (i : ℕ) → held i ≡ (cells i).held
  held_is i = takes rules asked cells sp ss arrays next piece requests outs table e ready caught shared i

  abbrev owing : State
  owing = record (standing arrays (n + 1) piece requests outs) { owed = Some (record { number = n; status = status }) }

  call : LineStep (storing rules depth) (moment (standing arrays next piece requests outs) table) (Told (Call n q)) (moment owing table)
  call =
      let refusal_why : refusal (storing rules depth) (standing arrays next piece requests outs) q ≡ Some status = refusal_is rules (standing arrays next piece requests outs) q refl ∙ why in
      let refuses : Refuses (standing arrays next piece requests outs) n status q owing = record { no_bytes = none; after = IsSame-refl _ } in
      (inl (refl, record { next_number = number; admits = subst (λ answer. Admits (storing rules depth) (standing arrays next piece requests outs) n q answer owing) (sym refusal_why) refuses }), λ i. refl)

  answer : LineStep (storing rules depth) (moment owing table) (Told (Answer n status 0 [])) (moment (standing arrays (n + 1) piece requests outs) table)
  answer = (inr (record { is_owed = refl; none_moved = refl; no_bytes = refl; after = IsSame-refl _ }), λ i. refl)

  both : Goes (storing rules depth) (moment (standing arrays next piece requests outs) table) (Told (Call n q) ∷ Told (Answer n status 0 []) ∷ []) (moment (standing arrays (n + 1) piece requests outs) table)
  both =
      goes_then (storing rules depth) (moment (standing arrays next piece requests outs) table) (moment owing table) (moment (standing arrays (n + 1) piece requests outs) table) (Told (Call n q) ∷ []) (Told (Answer n status 0 []) ∷ [])
      (goes_line (storing rules depth) (moment (standing arrays next piece requests outs) table) (moment owing table) (Told (Call n q)) tt refl call)
      (goes_line (storing rules depth) (moment owing table) (moment (standing arrays (n + 1) piece requests outs) table) (Told (Answer n status 0 [])) tt refl answer)

  sp_below : All (IsBelow next) sp
  sp_below = subst (All (IsBelow next)) (ready.courses 0).past_shared (all_shared (IsBelow next) (cells 0).past (ready.courses 0).given)

  pub is_refused : IsRefused rules (e ∷ sp) n q status
  is_refused = record { why = why; called = newest e sp; only = only }
    where
      only : (r : ClientRequest) → Contains (e ∷ sp) (Seen (Told (Call n r))) → q ≡ r
      only r (zero, low, is) = (call_is is).1
      only r (suc k, low, is) = let below : n < next = All-contains (IsBelow next) sp (Seen (Told (Call n r))) sp_below (k, omega arith, is) in absurd (omega arith)

  pub refused_passes : Passes rules depth (asked ++ None ∷ []) (e ∷ sp) ss (Told (Call n q) ∷ Told (Answer n status 0 []) ∷ []) arrays next piece requests outs table
  refused_passes = record {
    cells' = seen_cells e held cells;
    next' = n + 1;
    piece' = piece;
    requests' = requests;
    outs' = outs;
    table' = table;
    goes = both;
    ready = record {
      count = ap (λ m. m + 1) (number ∙ ready.count) ∙ sym (length-append asked (None ∷ []));
      distinct = seen_distinct (storing rules depth) (moment (standing arrays next piece requests outs) table) (moment (standing arrays (n + 1) piece requests outs) table) (Told (Call n q) ∷ Told (Answer n status 0 []) ∷ [])
          (told_two (Call n q) (Answer n status 0 [])) ready.distinct both;
      tracked = λ j d low. seen_track rules cells e held outs outs sp shared (ending (get_or requests j d).number (labels_till ss)) (get_or requests j d)
          (λ r f. let same : n ≡ (get_or requests j d).number = (call_is f).0 in let given = ready.distinct.given j d low in absurd (omega arith)) (λ f. f) (ready.tracked j d low);
      courses = seen_courses rules asked cells sp ss arrays next piece requests outs table e ready caught shared (n + 1) outs table (omega arith) (omega arith)
          (λ past same. above_same n (next_number past) (same ∙ sym number)) (λ i. subst (Has outs (table i)) (sym (held_is i)) (ready.courses i).has);
      opens = opens_here;
      awaited = λ m a there. elim (asked_more asked None m a there) [ inl old ↦ ready.awaited m a old | inr (last, is) ↦ absurd (never a is) ];
      owners = All-weaker (λ p. p.owner < next) (λ p. p.owner < n + 1) (λ p low. omega arith) outs ready.owners;
    };
    space = omega arith;
  }
    where
      never : (a : Asked) → None ≡ Some a → ⊥
      never a f = cc (f)

      opens_here : (m : ℕ) (r : ClientRequest) → Contains (e ∷ sp) (Seen (Told (Call m r))) → All (IsNoAnswer m) (e ∷ sp) → refused rules r ≡ None → IsOpenHere requests m r
      opens_here m r (zero, low, is) awaits taken = absurd (apart (sym why ∙ ap (refused rules) (call_is is).1 ∙ taken))
        where
          apart : Some status ≡ None → ⊥
          apart f = cc (f)
      opens_here m r (suc k, low, is) awaits taken = ready.opens m r (k, omega arith, is) (All-tail (IsNoAnswer m) e sp awaits) taken

-- its answer is seen by the sectors
module _ (rules : Rules) (depth : ℕ) (asked : List (Option Asked)) (cells : Cells) (sp ss : List Event) (arrays : List (List (List ℕ))) (next piece : ℕ) (requests : List OpenRequest) (outs : List Piece) (table : Table)
    (n : ℕ) (q : ClientRequest) (status : NtStatus) (informed : ℕ) (bytes : List ℕ) (ready : Ready rules asked cells sp (Seen (Told (Answer n status informed bytes)) ∷ ss) arrays next piece requests outs table)
    (caught : (i : ℕ) → IsCaughtUp (cells i).rest) (is : IsRefused rules sp n q status) (low : n < next) where
  abbrev told_answer : Event
  told_answer = Seen (Told (Answer n status informed bytes))

  answer_shared : IsShared told_answer
  answer_shared = record { plain = λ past. refl; shares = λ past. refl; no_effect = λ m sector f. cc (f) }

  abbrev answer_held : ℕ → Held
  answer_held = helds rules asked cells sp ss arrays next piece requests outs table told_answer ready caught answer_shared

  t : (i : ℕ) → IsAnswer rules i (cells i).past (cells i).held n status bytes (answer_held i)
  t i = takes rules asked cells sp ss arrays next piece requests outs table told_answer ready caught answer_shared i

  same : (i : ℕ) → q ≡ (t i).request
  same i = is.only (t i).request (subst (λ xs. Contains xs (Seen (Told (Call n (t i).request)))) (ready.courses i).past_shared (shared_seen (cells i).past (Told (Call n (t i).request)) (t i).is_open.called))

  answer_held_is : (i : ℕ) → answer_held i ≡ (cells i).held
  answer_held_is i = (t i).after ∙ plain (t i).request.kind status (λ flush success. flush_refused rules q (ap (λ r. r.kind) (same i) ∙ flush) (is.why ∙ ap Some success))
    where
      plain : (kind : Kind) (status : NtStatus) → (kind ≡ Flush → status ≡ Success → ⊥) → answered (next_number (cells i).past) n kind status (cells i).held ≡ (cells i).held
      plain Flush Success never = absurd (never refl refl)
      plain Flush _ never = refl
      plain Read status never = refl
      plain Write status never = refl

  pub refused_answer : Passes rules depth asked (told_answer ∷ sp) ss [] arrays next piece requests outs table
  refused_answer = record {
    cells' = seen_cells told_answer answer_held cells;
    next' = next;
    piece' = piece;
    requests' = requests;
    outs' = outs;
    table' = table;
    goes = goes_nowhere (storing rules depth) (moment (standing arrays next piece requests outs) table);
    ready = record {
      count = ready.count;
      distinct = ready.distinct;
      tracked = λ j d within. seen_track rules cells told_answer answer_held outs outs sp answer_shared (ending (get_or requests j d).number (labels_till ss)) (get_or requests j d) (λ r f. cc (f)) (λ f. f)
          (subst (λ s. IsTracked rules cells outs sp s (get_or requests j d)) (other_ending n (get_or requests j d).number status informed bytes (labels_till ss) (apart (get_or requests j d) (ready.tracked j d within)))
          (ready.tracked j d within));
      courses = seen_courses rules asked cells sp ss arrays next piece requests outs table told_answer ready caught answer_shared next outs table (omega arith) low (λ past number. number)
          (λ i. subst (Has outs (table i)) (sym (answer_held_is i)) (ready.courses i).has);
      opens = λ m r called awaits taken. ready.opens m r (behind_first told_answer (Seen (Told (Call m r))) sp (λ f. cc (f)) called) (All-tail (IsNoAnswer m) told_answer sp awaits) taken;
      awaited = ready.awaited;
      owners = ready.owners;
    };
    space = omega arith;
  }
    where
      -- no open request has its number
      apart : (x : OpenRequest) → Track rules cells outs sp (told_answer ∷ ss) x → n ≢ x.number
      apart x tr f =
          let named : x.request ≡ q = tr.named q (subst (λ m. Contains sp (Seen (Told (Call m q)))) f is.called) in
          let never : Some status ≡ None = sym is.why ∙ ap (refused rules) (sym named) ∙ tr.taken in
          absurd (cc (never))
