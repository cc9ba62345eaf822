-- A history over sessions that fits, whose sectors have schedules, is that of some sessions.
use Rattle.std.proofs.Common.{◌≡◌, ◌≢◌, ◌<◌, ◌≤◌, inl, inr, ℕ, zero, suc, ◌+◌, ◌-◌, ◌==◌, ◌&&◌, Bool, true, false, List, [], ◌∷◌, ◌++◌, Option, Some, None, refl, sym, ◌∙◌, ap, subst, arith, length, length-append}
use Rattle.std.specs.Prelude.{All, Contains, is_none, slice_get, if◌then◌else◌}
use Rattle.std.proofs.lemmas.Bool.{and_parts, eqb-true}
use Rattle.std.proofs.lemmas.List.Elements.{All-nil, All-contains, All-head, All-tail}
use Rattle.ntstatus.specs.declared.NtStatus.{NtStatus}
use Rattle.ntstatus.specs.declared.NtStatus.TheVariants.{DeviceBusy, InvalidHandle, InvalidParameter, Success}
use Rattle.ntstatus.specs.Codes.{value_of}
use Rattle.ntstatus.specs.First.{when, first_some}
use Rattle.machine.specs.declared.ClientRequest.{ClientRequest}
use Rattle.machine.specs.declared.Label.{Label}
use Rattle.machine.specs.declared.Label.TheVariants.{Call, Device, Answer, Cancel, Pause, Resume, Remove, Surprise, Removed}
use Rattle.machine.specs.Rules.{Rules, is_transfer}
use Rattle.machine.specs.State.{OpenRequest, Piece}
use Rattle.machine.proofs.Numbers.{AreDistinct-opening}
use Rattle.machine_laws.specs.Reached.{AreWhole}
use Rattle.history_laws.specs.declared.Asked.{Asked}
use Rattle.history_laws.specs.Fitting.{carried, ends, ends_open, entry_of, fits, refused}
use Rattle.history_laws.proofs.Mirroring.{further}
use Rattle.history_runs.specs.Laws.{IsAddressable}
use Rattle.history_runs.proofs.Answering.{ends_how}
use Rattle.history_runs.proofs.Failing.{IsEnding, busy_answer, ending, ending_ends, usable_ends, usable_is}
use Rattle.loss.specs.Held.{left, surely}
use Rattle.loss.specs.Moved.{Table, held_on}
use Rattle.loss.specs.Sessions.{Line, Told, Lost, Ended, LineStep, Moment}
use Rattle.history_loss.specs.Histories.{IsExplained, seen_of}
use Rattle.history_loss.specs.Schedules.{Event, Seen, Effect, Fails, AreScheduled, Leaves, MayFollow, lines_of, shared_of}
use Rattle.history_loss.proofs.Mirroring.{IsBelow}
use Rattle.history_loss.proofs.Scheduling.{explained_scheduled}
use Rattle.history_loss.proofs.Widening.{answers_down, calls_up}
use Rattle.history_loss_runs.specs.Laws.{AnswersMoveDown, CallsMoveUp, Fits, IsNotBusy, ScheduledAreExplained, all_fit_over}
use Rattle.history_loss_runs.proofs.Having.{has_left, has_surely}
use Rattle.history_loss_runs.proofs.Steps.{Goes, goes_line, goes_nowhere, goes_then, moment, path_sessions, standing, storing}
use Rattle.history_loss_runs.proofs.Tracking.{Cells, Ready, Track, labels_till}
use Rattle.history_loss_runs.proofs.Advancing.{IsBound}
use Rattle.history_loss_runs.proofs.Catching.{Catches, IsCaughtUp, catch_up, first_shared, tail}
use Rattle.history_loss_runs.proofs.Failures.{failure_passes}
use Rattle.history_loss_runs.proofs.Calls.{call_passes}
use Rattle.history_loss_runs.proofs.Answering.{answer_passes}
use Rattle.history_loss_runs.proofs.Refusing.{IsRefused, is_refused, refused_answer, refused_passes}
use Rattle.history_loss_runs.proofs.Sharing.{Passes, behind_first}

-- WHAT FITS

fit_parts : (b rest : Bool) → (if b then rest else false) ≡ true → (b ≡ true) × (rest ≡ true)
fit_parts true rest e = (refl, e)
fit_parts false rest e = cc (e)

empty : (xs : List ℕ) → length xs ≡ 0 → xs ≡ []
empty [] e = refl
empty (x ∷ xs) e = absurd (omega arith)

is_handle : (status : NtStatus) → value_of status ≡ value_of InvalidHandle → status ≡ InvalidHandle
is_handle InvalidHandle e = refl
is_handle _ e = absurd (omega arith)

is_parameter : (status : NtStatus) → value_of status ≡ value_of InvalidParameter → status ≡ InvalidParameter
is_parameter InvalidParameter e = refl
is_parameter _ e = absurd (omega arith)

is_success : (status : NtStatus) → value_of status ≡ value_of Success → status ≡ Success
is_success Success e = refl
is_success _ e = absurd (omega arith)

-- the number of a refusal's status tells it
told_is : (unknown unbound empty : Bool) (status told : NtStatus) → first_some (when unknown InvalidHandle ∷ when unbound InvalidParameter ∷ when empty Success ∷ []) ≡ Some status
    → value_of told ≡ value_of status → told ≡ status
told_is true unbound empty status told why e = let same : InvalidHandle ≡ status = cc (why) in is_handle told (e ∙ ap value_of (sym same)) ∙ same
told_is false true empty status told why e = let same : InvalidParameter ≡ status = cc (why) in is_parameter told (e ∙ ap value_of (sym same)) ∙ same
told_is false false true status told why e = let same : Success ≡ status = cc (why) in is_success told (e ∙ ap value_of (sym same)) ∙ same
told_is false false false status told why e = cc (why)

-- an answer that fits is to an open request
is_waiting : (found : Option (Option Asked)) (status : NtStatus) (informed count : ℕ) → ends_open found status informed count ≡ true → (a : Asked) × (found ≡ Some (Some a)) × (ends a status informed count ≡ true)
is_waiting (Some (Some a)) status informed count e = (a, refl, e)
is_waiting (Some None) status informed count e = cc (e)
is_waiting None status informed count e = cc (e)

shorter : (lines : List Line) → length (seen_of lines) ≤ length lines
shorter [] = omega arith
shorter (Lost ∷ lines) = let rest = shorter lines in omega arith
shorter (Ended ∷ lines) = let rest = shorter lines in omega arith
shorter (Told (Call number q) ∷ lines) = let rest = shorter lines in omega arith
shorter (Told (Answer number status informed bytes) ∷ lines) = let rest = shorter lines in omega arith
shorter (Told (Device label) ∷ lines) = let rest = shorter lines in omega arith
shorter (Told (Cancel number) ∷ lines) = let rest = shorter lines in omega arith
shorter (Told Pause ∷ lines) = let rest = shorter lines in omega arith
shorter (Told Resume ∷ lines) = let rest = shorter lines in omega arith
shorter (Told Remove ∷ lines) = let rest = shorter lines in omega arith
shorter (Told Surprise ∷ lines) = let rest = shorter lines in omega arith
shorter (Told Removed ∷ lines) = let rest = shorter lines in omega arith

never_seen : (line : Line) (lines : List Line) → seen_of lines ≡ line ∷ lines → ⊥
never_seen line lines e = let long : length (seen_of lines) ≡ suc (length lines) = ap length e in let most = shorter lines in absurd (omega arith)

no_effect_first : (xs : List Event) (n : ℕ) (sector : List ℕ) (ys : List Event) → shared_of xs ≡ Effect n sector ∷ ys → ⊥
no_effect_first [] n sector ys e = cc (e)
no_effect_first (Seen line ∷ xs) n sector ys e = cc (e)
no_effect_first (Fails m place ∷ xs) n sector ys e = cc (e)
no_effect_first (Effect m other ∷ xs) n sector ys e = no_effect_first xs n sector ys e

-- HOW REQUESTS END

label_told : (events : List Event) (label : Label) → Contains (labels_till events) label → Contains (lines_of events) (Told label)
label_told [] label c = let low = c.1 in absurd (omega arith)
label_told (Seen (Told l) ∷ events) label (zero, low, is) = let same : l ≡ label = is in (0, omega arith, ap Told same)
label_told (Seen (Told l) ∷ events) label (suc k, low, is) = further (Told l) (lines_of events) (Told label) (label_told events label (k, omega arith, is))
label_told (Seen Lost ∷ events) label c = let low = c.1 in absurd (omega arith)
label_told (Seen Ended ∷ events) label c = let low = c.1 in absurd (omega arith)
label_told (Effect n sector ∷ events) label c = label_told events label c
label_told (Fails n place ∷ events) label c = label_told events label c

bounds : (rules : Rules) (ss : List Event) → All IsNotBusy (lines_of ss) → (m : ℕ) → IsBound (ending m (labels_till ss))
bounds rules ss plain m = by_end (ending_ends m (labels_till ss))
  where
    by_end : IsEnding (ending m (labels_till ss)) → IsBound (ending m (labels_till ss))
    by_end (inl success) = inl success
    by_end (inr (inl busy)) =
        let a = busy_answer m (labels_till ss) busy in
        absurd (All-contains IsNotBusy (lines_of ss) (Told (Answer m DeviceBusy a.0 a.1)) plain (label_told ss (Answer m DeviceBusy a.0 a.1) a.2) refl)
    by_end (inr (inr f)) = inr f

status_bound : (status : NtStatus) → IsEnding status → status ≢ DeviceBusy → IsBound status
status_bound status (inl success) other = inl success
status_bound status (inr (inl busy)) other = absurd (other busy)
status_bound status (inr (inr f)) other = inr f

-- A SESSION BEGINS

module _ (rules : Rules) (ss : List Event) (arrays : List (List (List ℕ))) (disk : ℕ → List ℕ) (rests : ℕ → List Event) (follows : (i : ℕ) → MayFollow rules i [] (surely (disk i)) (rests i)) (shared : (i : ℕ) → shared_of (rests i) ≡ ss) where
  abbrev first_cells : Cells
  first_cells i = record { past = []; held = surely (disk i); rest = rests i }

  first_ready : Ready rules (None ∷ []) first_cells [] ss arrays 1 1 [] [] (held_on disk)
  first_ready = record {
    count = refl;
    distinct = AreDistinct-opening arrays;
    tracked = All-nil (Track rules first_cells [] [] ss);
    courses = λ i. record { follows = follows i; rest_shared = shared i; past_shared = refl; given = All-nil (IsBelow 1); number = refl; dated = tt; has = has_surely [] (disk i) };
    opens = λ n q called awaits taken. absurd (nothing called);
    awaited = λ n a has. absurd (none n a has);
    owners = All-nil (λ (p : Piece). p.owner < 1);
  }
    where
      nothing : {event : Event} → Contains [] event → ⊥
      nothing (k, low, is) = absurd (omega arith)

      none : (n : ℕ) (a : Asked) → slice_get (None ∷ []) n ≡ Some (Some a) → ⊥
      none zero a e = cc (e)
      none (suc n) a e = cc (e)

-- ITS SESSIONS

module _ (rules : Rules) (depth : ℕ) (room : IsAddressable rules) (arrays : List (List (List ℕ))) where
  abbrev Leads : List Event → ℕ → ℕ → List OpenRequest → List Piece → Table → Type 0
  Leads ss next piece requests outs table = (last : Moment) × Goes (storing rules depth) (moment (standing arrays next piece requests outs) table) (lines_of ss) last

  -- what goes on from there
  abbrev GoesOn : List Event → Type 0
  GoesOn ss = (asked : List (Option Asked)) (cells : Cells) (sp : List Event) (next piece : ℕ) (requests : List OpenRequest) (outs : List Piece) (table : Table)
      → Ready rules asked cells sp ss arrays next piece requests outs table → all_fit_over rules asked None (lines_of ss) ≡ true → seen_of (lines_of ss) ≡ lines_of ss → All IsNotBusy (lines_of ss)
      → length outs + length (lines_of ss) < depth → Leads ss next piece requests outs table

  caught_passes : (asked asked' : List (Option Asked)) (cells : Cells) (sp sp' whole ss : List Event) (seen : List Line) (next piece : ℕ) (requests : List OpenRequest) (outs : List Piece) (table : Table)
      (c : Catches rules depth asked cells sp whole arrays next piece requests outs table) (p : Passes rules depth asked' sp' ss seen arrays next c.to.piece' c.to.requests' outs c.to.table')
      → Leads ss p.next' p.piece' p.requests' p.outs' p.table' → (last : Moment) × Goes (storing rules depth) (moment (standing arrays next piece requests outs) table) (seen ++ lines_of ss) last
  caught_passes asked asked' cells sp sp' whole ss seen next piece requests outs table c p (last, goes) = (
    last,
    goes_then (storing rules depth) (moment (standing arrays next piece requests outs) table) (moment (standing arrays next c.to.piece' c.to.requests' outs) c.to.table') last [] (seen ++ lines_of ss) c.to.goes
        (goes_then (storing rules depth) (moment (standing arrays next c.to.piece' c.to.requests' outs) c.to.table') (moment (standing arrays p.next' p.piece' p.requests' p.outs') p.table') last seen (lines_of ss) p.goes goes),
  )

  on_failure : (n k : ℕ) (ss : List Event) → GoesOn ss → GoesOn (Fails n k ∷ ss)
  on_failure n k ss on asked cells sp next piece requests outs table ready fit seen plain space =
      let found = catch_up rules depth room asked sp (Fails n k ∷ ss) arrays next outs (omega arith) (bounds rules ss plain) cells piece requests table ready in
      let c = found.0 in
      let p = failure_passes rules depth room asked c.cells' sp ss arrays next c.to.piece' c.to.requests' outs c.to.table' n k c.to.ready found.1 (omega arith) (bounds rules ss plain) in
      caught_passes asked asked cells sp (Fails n k ∷ sp) (Fails n k ∷ ss) ss [] next piece requests outs table c p
      (on asked p.cells' (Fails n k ∷ sp) p.next' p.piece' p.requests' p.outs' p.table' p.ready fit seen plain (let s = p.space in omega arith))

  -- what goes on behind a refused call, whose answer is told already
  abbrev GoesOnRefused : List Event → Type 0
  GoesOnRefused ss = (asked : List (Option Asked)) (cells : Cells) (sp : List Event) (next piece : ℕ) (requests : List OpenRequest) (outs : List Piece) (table : Table) (n : ℕ) (q : ClientRequest) (status : NtStatus) (after : List Line)
      → Ready rules asked cells sp ss arrays next piece requests outs table → IsRefused rules sp n q status → n < next → lines_of ss ≡ Told (Answer n status 0 []) ∷ after
      → all_fit_over rules asked None after ≡ true → seen_of after ≡ after → All IsNotBusy (lines_of ss) → length outs + length after < depth
      → (last : Moment) × Goes (storing rules depth) (moment (standing arrays next piece requests outs) table) after last

  -- the answer of a refused call comes next
  owed_answer : (asked : List (Option Asked)) (n : ℕ) (status : NtStatus) (lines : List Line) → length asked ≡ n + 1 → ((told : NtStatus) → value_of told ≡ value_of status → told ≡ status)
      → all_fit_over rules asked (Some status) lines ≡ true → seen_of lines ≡ lines → (after : List Line) × (lines ≡ Told (Answer n status 0 []) ∷ after) × (all_fit_over rules asked None after ≡ true) × (seen_of after ≡ after)
  owed_answer asked n status [] long told fit seen = absurd (cc (fit))
  owed_answer asked n status (Lost ∷ lines) long told fit seen = absurd (cc (fit))
  owed_answer asked n status (Ended ∷ lines) long told fit seen = absurd (cc (fit))
  owed_answer asked n status (Told (Call m r) ∷ lines) long told fit seen = absurd (cc (fit))
  owed_answer asked n status (Told (Answer m s informed bytes) ∷ lines) long told fit seen =
      let parts : (fits rules asked (Some status) (Answer m s informed bytes) ≡ true) × _ = fit_parts (fits rules asked (Some status) (Answer m s informed bytes)) _ fit in
      let tests = and_parts (m == length asked - 1) ((value_of s == value_of status) && ((informed == 0) && (length bytes == 0))) parts.0 in
      let tests' = and_parts (value_of s == value_of status) ((informed == 0) && (length bytes == 0)) tests.1 in
      let tests'' = and_parts (informed == 0) (length bytes == 0) tests'.1 in
      let is_m : m ≡ n = let e = eqb-true m (length asked - 1) tests.0 in omega arith in
      let is_s : s ≡ status = told s (eqb-true (value_of s) (value_of status) tests'.0) in
      let is_i : informed ≡ 0 = eqb-true informed 0 tests''.0 in
      let is_b : bytes ≡ [] = empty bytes (eqb-true (length bytes) 0 tests''.1) in
      let same : Told (Answer m s informed bytes) ≡ Told (Answer n status 0 []) =
      ap (λ v. Told (Answer v s informed bytes)) is_m ∙ ap (λ v. Told (Answer n v informed bytes)) is_s ∙ ap (λ v. Told (Answer n status v bytes)) is_i ∙ ap (λ v. Told (Answer n status 0 v)) is_b in
      (lines, ap (λ l. l ∷ lines) same, parts.1, cc (seen))
  owed_answer asked n status (Told (Device label) ∷ lines) long told fit seen = absurd (never_seen (Told (Device label)) lines seen)
  owed_answer asked n status (Told (Cancel m) ∷ lines) long told fit seen = absurd (never_seen (Told (Cancel m)) lines seen)
  owed_answer asked n status (Told Pause ∷ lines) long told fit seen = absurd (never_seen (Told Pause) lines seen)
  owed_answer asked n status (Told Resume ∷ lines) long told fit seen = absurd (never_seen (Told Resume) lines seen)
  owed_answer asked n status (Told Remove ∷ lines) long told fit seen = absurd (never_seen (Told Remove) lines seen)
  owed_answer asked n status (Told Surprise ∷ lines) long told fit seen = absurd (never_seen (Told Surprise) lines seen)
  owed_answer asked n status (Told Removed ∷ lines) long told fit seen = absurd (never_seen (Told Removed) lines seen)

  on_call : (n : ℕ) (q : ClientRequest) (ss : List Event) → GoesOn ss → GoesOnRefused ss → GoesOn (Seen (Told (Call n q)) ∷ ss)
  on_call n q ss on refused_on asked cells sp next piece requests outs table ready fit seen plain space =
      let parts : (fits rules asked None (Call n q) ≡ true) × _ = fit_parts (fits rules asked None (Call n q)) _ fit in
      let tests = and_parts (n == length asked) (length q.bytes == carried (refused rules q) q) parts.0 in
      let found = catch_up rules depth room asked sp (Seen (Told (Call n q)) ∷ ss) arrays next outs (omega arith) (bounds rules (Seen (Told (Call n q)) ∷ ss) plain) cells piece requests table ready in
      by_answer found.0 found.1 (eqb-true n (length asked) tests.0 ∙ sym ready.count) (refused rules q) refl (eqb-true (length q.bytes) (carried (refused rules q) q) tests.1) parts.1
    where
      by_answer : (c : Catches rules depth asked cells sp (Seen (Told (Call n q)) ∷ ss) arrays next piece requests outs table) → ((i : ℕ) → IsCaughtUp (c.cells' i).rest) → n ≡ next → (answer : Option NtStatus) → refused rules q ≡ answer
          → length q.bytes ≡ carried answer q → all_fit_over rules (asked ++ entry_of answer q ∷ []) answer (lines_of ss) ≡ true → Leads (Seen (Told (Call n q)) ∷ ss) next piece requests outs table
      by_answer c caught number None taken long fit' =
          let p = call_passes rules depth room asked c.cells' sp ss arrays next c.to.piece' c.to.requests' outs c.to.table' n q c.to.ready caught (omega arith) number taken long in
          caught_passes asked _ cells sp (Seen (Told (Call n q)) ∷ sp) (Seen (Told (Call n q)) ∷ ss) ss (Told (Call n q) ∷ []) next piece requests outs table c p
          (on _ p.cells' (Seen (Told (Call n q)) ∷ sp) p.next' p.piece' p.requests' p.outs' p.table' p.ready fit' (cc (seen)) (All-tail IsNotBusy (Told (Call n q)) (lines_of ss) plain) (let s = p.space in omega arith))
      by_answer c caught number (Some status) why long fit' =
          let p = refused_passes rules depth asked c.cells' sp ss arrays next c.to.piece' c.to.requests' outs c.to.table' n q c.to.ready caught status number why (empty q.bytes long) in
          let is : IsRefused rules (Seen (Told (Call n q)) ∷ sp) n q status = is_refused rules depth asked c.cells' sp ss arrays next c.to.piece' c.to.requests' outs c.to.table' n q c.to.ready caught status number why (empty q.bytes long) in
          let more : length (asked ++ None ∷ []) ≡ n + 1 = length-append asked (None ∷ []) ∙ ap (λ m. m + 1) (sym ready.count ∙ sym number) in
          let next_is : p.next' ≡ n + 1 = p.ready.count ∙ more in
          let owed = owed_answer (asked ++ None ∷ []) n status (lines_of ss) more (λ told same. told_is (is_none q.partition) _ (is_transfer q.kind && (q.length == 0)) status told why same) fit' (cc (seen)) in
          let count : length (lines_of ss) ≡ suc (length owed.0) = ap length owed.1 in
          let rest : (last : Moment) × Goes (storing rules depth) (moment (standing arrays p.next' p.piece' p.requests' p.outs') p.table') owed.0 last =
          refused_on (asked ++ None ∷ []) p.cells' (Seen (Told (Call n q)) ∷ sp) p.next' p.piece' p.requests' p.outs' p.table' n q status owed.0 p.ready is (omega arith) owed.1 owed.2 owed.3
          (All-tail IsNotBusy (Told (Call n q)) (lines_of ss) plain) (let s = p.space in omega arith) in (
            rest.0,
            subst (λ lines. Goes (storing rules depth) (moment (standing arrays next piece requests outs) table) (Told (Call n q) ∷ lines) rest.0) (sym owed.1)
                (goes_then (storing rules depth) (moment (standing arrays next piece requests outs) table) (moment (standing arrays next c.to.piece' c.to.requests' outs) c.to.table') rest.0 [] (Told (Call n q) ∷ Told (Answer n status 0 []) ∷ owed.0) c.to.goes
                (goes_then (storing rules depth) (moment (standing arrays next c.to.piece' c.to.requests' outs) c.to.table') (moment (standing arrays p.next' p.piece' p.requests' p.outs') p.table') rest.0
                (Told (Call n q) ∷ Told (Answer n status 0 []) ∷ []) owed.0 p.goes rest.1)),
          )

  -- events before the answer of a refused call
  refused_failure : (m k : ℕ) (ss : List Event) → GoesOnRefused ss → GoesOnRefused (Fails m k ∷ ss)
  refused_failure m k ss on asked cells sp next piece requests outs table n q status after ready is low lines fit seen plain space =
      let found = catch_up rules depth room asked sp (Fails m k ∷ ss) arrays next outs (omega arith) (bounds rules ss plain) cells piece requests table ready in
      let c = found.0 in
      let p = failure_passes rules depth room asked c.cells' sp ss arrays next c.to.piece' c.to.requests' outs c.to.table' m k c.to.ready found.1 (omega arith) (bounds rules ss plain) in
      let next_is : p.next' ≡ next = p.ready.count ∙ sym ready.count in
      let rest = on asked p.cells' (Fails m k ∷ sp) p.next' p.piece' p.requests' p.outs' p.table' n q status after p.ready
      (record { why = is.why; called = further (Fails m k) sp (Seen (Told (Call n q))) is.called; only = λ r has. is.only r (behind_first (Fails m k) (Seen (Told (Call n r))) sp (λ f. cc (f)) has) })
      (omega arith) lines fit seen plain (let s = p.space in omega arith) in (
        rest.0,
        goes_then (storing rules depth) (moment (standing arrays next piece requests outs) table) (moment (standing arrays next c.to.piece' c.to.requests' outs) c.to.table') rest.0 [] after c.to.goes
            (goes_then (storing rules depth) (moment (standing arrays next c.to.piece' c.to.requests' outs) c.to.table') (moment (standing arrays p.next' p.piece' p.requests' p.outs') p.table') rest.0 [] after p.goes rest.1),
      )

  refused_answered : (m : ℕ) (told : NtStatus) (informed : ℕ) (bytes : List ℕ) (ss : List Event) → GoesOn ss → GoesOnRefused (Seen (Told (Answer m told informed bytes)) ∷ ss)
  refused_answered m told informed bytes ss on asked cells sp next piece requests outs table n q status after ready is low lines fit seen plain space =
      let is_m : m ≡ n = cc (lines) in
      let is_s : told ≡ status = cc (lines) in
      let rest_is : lines_of ss ≡ after = cc (lines) in
      let is' : IsRefused rules sp m q told = subst (λ v. IsRefused rules sp v q told) (sym is_m) (subst (λ v. IsRefused rules sp n q v) (sym is_s) is) in
      let found = catch_up rules depth room asked sp (Seen (Told (Answer m told informed bytes)) ∷ ss) arrays next outs (omega arith) (bounds rules (Seen (Told (Answer m told informed bytes)) ∷ ss) plain) cells piece requests table ready in
      let c = found.0 in
      let p = refused_answer rules depth asked c.cells' sp ss arrays next c.to.piece' c.to.requests' outs c.to.table' m q told informed bytes c.to.ready found.1 is' (omega arith) in
      let short : length (lines_of ss) ≡ length after = ap length rest_is in
      let rest : Leads ss p.next' p.piece' p.requests' p.outs' p.table' =
      on asked p.cells' (Seen (Told (Answer m told informed bytes)) ∷ sp) p.next' p.piece' p.requests' p.outs' p.table' p.ready (subst (λ l. all_fit_over rules asked None l ≡ true) (sym rest_is) fit)
      (subst (λ l. seen_of l ≡ l) (sym rest_is) seen) (All-tail IsNotBusy (Told (Answer m told informed bytes)) (lines_of ss) plain) (let s = p.space in omega arith) in (
        rest.0,
        subst (λ l. Goes (storing rules depth) (moment (standing arrays next piece requests outs) table) l rest.0) rest_is
            (goes_then (storing rules depth) (moment (standing arrays next piece requests outs) table) (moment (standing arrays next c.to.piece' c.to.requests' outs) c.to.table') rest.0 [] (lines_of ss) c.to.goes
            (goes_then (storing rules depth) (moment (standing arrays next c.to.piece' c.to.requests' outs) c.to.table') (moment (standing arrays p.next' p.piece' p.requests' p.outs') p.table') rest.0 [] (lines_of ss) p.goes rest.1)),
      )

  on_answer : (n : ℕ) (status : NtStatus) (informed : ℕ) (bytes : List ℕ) (ss : List Event) → GoesOn ss → GoesOn (Seen (Told (Answer n status informed bytes)) ∷ ss)
  on_answer n status informed bytes ss on asked cells sp next piece requests outs table ready fit seen plain space =
      let parts : (fits rules asked None (Answer n status informed bytes) ≡ true) × _ = fit_parts (fits rules asked None (Answer n status informed bytes)) _ fit in
      let waits = is_waiting (slice_get asked n) status informed (length bytes) parts.0 in
      let other : status ≢ DeviceBusy = All-head IsNotBusy (Told (Answer n status informed bytes)) (lines_of ss) plain in
      let bound : IsBound status = status_bound status (subst IsEnding (usable_is status (ends_how waits.0 status informed (length bytes) waits.2)) (usable_ends status)) other in
      let found = catch_up rules depth room asked sp (Seen (Told (Answer n status informed bytes)) ∷ ss) arrays next outs (omega arith) (bounds rules (Seen (Told (Answer n status informed bytes)) ∷ ss) plain) cells piece requests table ready in
      let c = found.0 in
      let p = answer_passes rules depth room asked c.cells' sp ss arrays next c.to.piece' c.to.requests' outs c.to.table' n status informed bytes c.to.ready found.1 (omega arith) bound waits.0 waits.1 waits.2 in
      caught_passes asked _ cells sp (Seen (Told (Answer n status informed bytes)) ∷ sp) (Seen (Told (Answer n status informed bytes)) ∷ ss) ss (Told (Answer n status informed bytes) ∷ []) next piece requests outs table c p
      (on _ p.cells' (Seen (Told (Answer n status informed bytes)) ∷ sp) p.next' p.piece' p.requests' p.outs' p.table' p.ready parts.1 (cc (seen))
      (All-tail IsNotBusy (Told (Answer n status informed bytes)) (lines_of ss) plain) (let s = p.space in omega arith))

  on_loss : (ss : List Event) → GoesOn ss → GoesOn (Seen Lost ∷ ss)
  on_loss ss on asked cells sp next piece requests outs table ready fit seen plain space =
      let found = catch_up rules depth room asked sp (Seen Lost ∷ ss) arrays next outs (omega arith) (bounds rules (Seen Lost ∷ ss) plain) cells piece requests table ready in
      from_there found.0 found.1
    where
      from_there : (c : Catches rules depth asked cells sp (Seen Lost ∷ ss) arrays next piece requests outs table) → ((i : ℕ) → IsCaughtUp (c.cells' i).rest) → Leads (Seen Lost ∷ ss) next piece requests outs table
      from_there c caught =
          let rest : Leads ss 1 1 [] [] (held_on (λ j. (leaves j).value)) =
          on (None ∷ []) (first_cells rules ss arrays (λ j. (leaves j).value) (λ i. tail (c.cells' i).rest) follows shared) [] 1 1 [] [] (held_on (λ j. (leaves j).value)) (first_ready rules ss arrays (λ j. (leaves j).value) (λ i. tail (c.cells' i).rest) follows shared) fit (cc (seen))
          (All-tail IsNotBusy Lost (lines_of ss) plain) (omega arith) in (
            rest.0,
            goes_then (storing rules depth) (moment (standing arrays next piece requests outs) table) (moment (standing arrays next c.to.piece' c.to.requests' outs) c.to.table') rest.0 [] (Lost ∷ lines_of ss) c.to.goes
                (goes_then (storing rules depth) (moment (standing arrays next c.to.piece' c.to.requests' outs) c.to.table') (moment (standing arrays 1 1 [] []) (held_on (λ j. (leaves j).value))) rest.0 (Lost ∷ []) (lines_of ss)
                (goes_line (storing rules depth) (moment (standing arrays next c.to.piece' c.to.requests' outs) c.to.table') (moment (standing arrays 1 1 [] []) (held_on (λ j. (leaves j).value))) Lost tt refl step) rest.1),
          )
        where
          front : (i : ℕ) → ((c.cells' i).rest ≡ Seen Lost ∷ tail (c.cells' i).rest) × (shared_of (tail (c.cells' i).rest) ≡ ss)
          front i = first_shared (Seen Lost) ss (c.cells' i).rest (caught i) (c.to.ready.courses i).rest_shared

          goes : (i : ℕ) → MayFollow rules i (c.cells' i).past (c.cells' i).held (Seen Lost ∷ tail (c.cells' i).rest)
          goes i = subst (MayFollow rules i (c.cells' i).past (c.cells' i).held) (front i).0 (c.to.ready.courses i).follows

          leaves : (i : ℕ) → Leaves rules i (left (c.cells' i).held) (goes i).0
          leaves i = (goes i).1

          follows : (i : ℕ) → MayFollow rules i [] (surely (leaves i).value) (tail (c.cells' i).rest)
          follows i = subst (λ h. MayFollow rules i [] h (tail (c.cells' i).rest)) (leaves i).after (goes i).2

          shared : (i : ℕ) → shared_of (tail (c.cells' i).rest) ≡ ss
          shared i = (front i).1

          step : LineStep (storing rules depth) (moment (standing arrays next c.to.piece' c.to.requests' outs) c.to.table') Lost (moment (standing arrays 1 1 [] []) (held_on (λ j. (leaves j).value)))
          step = record {
            disk = λ j. (leaves j).value;
            chosen = λ i low. inl (has_left outs (c.to.table' i) (c.cells' i).held (c.to.ready.courses i).has (leaves i).value ((leaves i).among low));
            machine = refl;
            table = λ i. refl;
          }

  on_end : (ss : List Event) → GoesOn ss → GoesOn (Seen Ended ∷ ss)
  on_end ss on asked cells sp next piece requests outs table ready fit seen plain space =
      let found = catch_up rules depth room asked sp (Seen Ended ∷ ss) arrays next outs (omega arith) (bounds rules (Seen Ended ∷ ss) plain) cells piece requests table ready in
      from_there found.0 found.1
    where
      from_there : (c : Catches rules depth asked cells sp (Seen Ended ∷ ss) arrays next piece requests outs table) → ((i : ℕ) → IsCaughtUp (c.cells' i).rest) → Leads (Seen Ended ∷ ss) next piece requests outs table
      from_there c caught =
          let rest : Leads ss 1 1 [] [] (held_on (λ j. (leaves j).value)) =
          on (None ∷ []) (first_cells rules ss arrays (λ j. (leaves j).value) (λ i. tail (c.cells' i).rest) follows shared) [] 1 1 [] [] (held_on (λ j. (leaves j).value)) (first_ready rules ss arrays (λ j. (leaves j).value) (λ i. tail (c.cells' i).rest) follows shared) fit (cc (seen))
          (All-tail IsNotBusy Ended (lines_of ss) plain) (omega arith) in (
            rest.0,
            goes_then (storing rules depth) (moment (standing arrays next piece requests outs) table) (moment (standing arrays next c.to.piece' c.to.requests' outs) c.to.table') rest.0 [] (Ended ∷ lines_of ss) c.to.goes
                (goes_then (storing rules depth) (moment (standing arrays next c.to.piece' c.to.requests' outs) c.to.table') (moment (standing arrays 1 1 [] []) (held_on (λ j. (leaves j).value))) rest.0 (Ended ∷ []) (lines_of ss)
                (goes_line (storing rules depth) (moment (standing arrays next c.to.piece' c.to.requests' outs) c.to.table') (moment (standing arrays 1 1 [] []) (held_on (λ j. (leaves j).value))) Ended tt refl step) rest.1),
          )
        where
          front : (i : ℕ) → ((c.cells' i).rest ≡ Seen Ended ∷ tail (c.cells' i).rest) × (shared_of (tail (c.cells' i).rest) ≡ ss)
          front i = first_shared (Seen Ended) ss (c.cells' i).rest (caught i) (c.to.ready.courses i).rest_shared

          goes : (i : ℕ) → MayFollow rules i (c.cells' i).past (c.cells' i).held (Seen Ended ∷ tail (c.cells' i).rest)
          goes i = subst (MayFollow rules i (c.cells' i).past (c.cells' i).held) (front i).0 (c.to.ready.courses i).follows

          leaves : (i : ℕ) → Leaves rules i (c.cells' i).held.now (goes i).0
          leaves i = (goes i).1

          follows : (i : ℕ) → MayFollow rules i [] (surely (leaves i).value) (tail (c.cells' i).rest)
          follows i = subst (λ h. MayFollow rules i [] h (tail (c.cells' i).rest)) (leaves i).after (goes i).2

          shared : (i : ℕ) → shared_of (tail (c.cells' i).rest) ≡ ss
          shared i = (front i).1

          step : LineStep (storing rules depth) (moment (standing arrays next c.to.piece' c.to.requests' outs) c.to.table') Ended (moment (standing arrays 1 1 [] []) (held_on (λ j. (leaves j).value)))
          step = record {
            disk = λ j. (leaves j).value;
            chosen = λ i low. inl ((c.to.ready.courses i).has.now (leaves i).value ((leaves i).among low));
            machine = refl;
            table = λ i. refl;
          }

  never : (label : Label) (ss : List Event) → (seen_of (lines_of (Seen (Told label) ∷ ss)) ≡ lines_of (Seen (Told label) ∷ ss) → seen_of (lines_of ss) ≡ Told label ∷ lines_of ss) → GoesOn (Seen (Told label) ∷ ss)
  never label ss hides asked cells sp next piece requests outs table ready fit seen plain space = absurd (never_seen (Told label) (lines_of ss) (hides seen))

  goes_on : (ss : List Event) → GoesOn ss × GoesOnRefused ss
  goes_on [] = (
    λ asked cells sp next piece requests outs table ready fit seen plain space.
        (moment (standing arrays next piece requests outs) table, goes_nowhere (storing rules depth) (moment (standing arrays next piece requests outs) table)),
    λ asked cells sp next piece requests outs table n q status after ready is low lines. cc (lines),
  )
  goes_on (Fails n k ∷ ss) = let rest = goes_on ss in (on_failure n k ss rest.0, refused_failure n k ss rest.1)
  goes_on (Effect n sector ∷ ss) = (
    λ asked cells sp next piece requests outs table ready fit seen plain space. absurd (no_effect_first (cells 0).rest n sector ss (ready.courses 0).rest_shared),
    λ asked cells sp next piece requests outs table m q status after ready is low lines fit seen plain space. absurd (no_effect_first (cells 0).rest n sector ss (ready.courses 0).rest_shared),
  )
  goes_on (Seen Lost ∷ ss) = (on_loss ss (goes_on ss).0, λ asked cells sp next piece requests outs table n q status after ready is low lines. cc (lines))
  goes_on (Seen Ended ∷ ss) = (on_end ss (goes_on ss).0, λ asked cells sp next piece requests outs table n q status after ready is low lines. cc (lines))
  goes_on (Seen (Told (Call n q)) ∷ ss) = let rest = goes_on ss in (on_call n q ss rest.0 rest.1, λ asked cells sp next piece requests outs table m r status after ready is low lines. cc (lines))
  goes_on (Seen (Told (Answer n status informed bytes)) ∷ ss) = let rest = goes_on ss in (on_answer n status informed bytes ss rest.0, refused_answered n status informed bytes ss rest.0)
  goes_on (Seen (Told (Device label)) ∷ ss) = (never (Device label) ss (λ seen. seen), λ asked cells sp next piece requests outs table n q status after ready is low lines. cc (lines))
  goes_on (Seen (Told (Cancel n)) ∷ ss) = (never (Cancel n) ss (λ seen. seen), λ asked cells sp next piece requests outs table m q status after ready is low lines. cc (lines))
  goes_on (Seen (Told Pause) ∷ ss) = (never Pause ss (λ seen. seen), λ asked cells sp next piece requests outs table n q status after ready is low lines. cc (lines))
  goes_on (Seen (Told Resume) ∷ ss) = (never Resume ss (λ seen. seen), λ asked cells sp next piece requests outs table n q status after ready is low lines. cc (lines))
  goes_on (Seen (Told Remove) ∷ ss) = (never Remove ss (λ seen. seen), λ asked cells sp next piece requests outs table n q status after ready is low lines. cc (lines))
  goes_on (Seen (Told Surprise) ∷ ss) = (never Surprise ss (λ seen. seen), λ asked cells sp next piece requests outs table n q status after ready is low lines. cc (lines))
  goes_on (Seen (Told Removed) ∷ ss) = (never Removed ss (λ seen. seen), λ asked cells sp next piece requests outs table n q status after ready is low lines. cc (lines))

explains : (rules : Rules) (disk : ℕ → List ℕ) (arrays : List (List (List ℕ))) (history : List Line) → IsAddressable rules → AreWhole rules arrays → Fits rules history → AreScheduled rules disk history → IsExplained rules disk history
explains rules disk arrays history room whole f all =
    let found : (last : Moment) × Goes (storing rules (suc (length history))) (moment (standing arrays 1 1 [] []) (held_on disk)) (lines_of all.shared) last =
    (goes_on rules (suc (length history)) room arrays all.shared).0 (None ∷ [])
    (first_cells rules all.shared arrays disk (λ i. (all.each i).events) (λ i. (all.each i).in_turn) (λ i. (all.each i).shares)) [] 1 1 [] [] (held_on disk)
    (first_ready rules all.shared arrays disk (λ i. (all.each i).events) (λ i. (all.each i).in_turn) (λ i. (all.each i).shares))
    (subst (λ lines. all_fit_over rules (None ∷ []) None lines ≡ true) (sym all.seen) f.fit) (subst (λ lines. seen_of lines ≡ lines) (sym all.seen) f.is_history) (subst (All IsNotBusy) (sym all.seen) f.not_busy)
    (subst (λ lines. 0 + length lines < suc (length history)) (sym all.seen) (omega arith)) in
    record {
      depth = suc (length history);
      max_transfer = 1;
      window = None;
      arrays = arrays;
      whole = whole;
      lines = found.1.lines;
      last = found.0;
      sessions = path_sessions (storing rules (suc (length history))) (moment (standing arrays 1 1 [] []) (held_on disk)) found.1.lines found.0 found.1.path;
      of_service = found.1.serving;
      seen = found.1.seen ∙ all.seen;
    }

pub scheduled_explained : ScheduledAreExplained
scheduled_explained rules disk arrays history room whole f = (λ all. explains rules disk arrays history room whole f all, λ h. explained_scheduled rules disk history h)

pub calls_explained : CallsMoveUp
calls_explained rules disk arrays before label number q after room whole f h =
    explains rules disk arrays (before ++ Told (Call number q) ∷ Told label ∷ after) room whole f (calls_up rules disk before label number q after (explained_scheduled rules disk (before ++ Told label ∷ Told (Call number q) ∷ after) h))

pub answers_explained : AnswersMoveDown
answers_explained rules disk arrays before number status informed bytes label after room whole other f h =
    explains rules disk arrays (before ++ Told label ∷ Told (Answer number status informed bytes) ∷ after) room whole f
    (answers_down rules disk before number status informed bytes label after other (explained_scheduled rules disk (before ++ Told (Answer number status informed bytes) ∷ Told label ∷ after) h))
