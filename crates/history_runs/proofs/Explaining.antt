-- A history that fits, with a schedule for each sector, is that of a run.
use Rattle.std.proofs.Common.{◌≡◌, ◌<◌, ◌≤◌, ℕ, zero, suc, ◌+◌, ◌-◌, ◌==◌, ◌&&◌, Bool, true, false, List, [], ◌∷◌, ◌++◌, Option, Some, None, refl, sym, ◌∙◌, ap, arith, length, get_or, set, length-append, subst}
use Rattle.std.specs.Prelude.{All, Contains, is_none, slice_get, if◌then◌else◌}
use Rattle.std.proofs.lemmas.Bool.{and_parts, eqb-true}
use Rattle.std.proofs.lemmas.List.Elements.{All-nil}
use Rattle.std.proofs.lemmas.Option.{slice_get-get_or}
use Rattle.ntstatus.specs.declared.NtStatus.{NtStatus}
use Rattle.ntstatus.specs.declared.NtStatus.TheVariants.{Success, InvalidHandle, InvalidParameter, DeviceBusy}
use Rattle.ntstatus.specs.Codes.{value_of}
use Rattle.ntstatus.specs.First.{when, first_some}
use Rattle.machine.specs.declared.ClientRequest.{ClientRequest}
use Rattle.machine.specs.declared.Label.{Label}
use Rattle.machine.specs.declared.Label.TheVariants.{Call, Device, Answer, Cancel, Pause, Resume, Remove, Surprise, Removed}
use Rattle.machine.specs.Rules.{Rules, is_transfer, sectors_of, place_count}
use Rattle.machine.specs.State.{OpenRequest, State}
use Rattle.machine.specs.Sending.{array_at}
use Rattle.machine.proofs.Numbers.{AreDistinct-opening}
use Rattle.machine_laws.specs.Reached.{AreWhole}
use Rattle.history_laws.specs.declared.Asked.{Asked}
use Rattle.history_laws.specs.History.{history_of}
use Rattle.history_laws.specs.Schedules.{Event, IsAt, IsNoEffect}
use Rattle.history_laws.specs.Fitting.{refused, carried, entry_of, ends_open, ends, fits, all_fit}
use Rattle.history_laws.proofs.Mirroring.{IsBelow, further, newest}
use Rattle.history_runs.specs.Laws.{IsAddressable, AreScheduled, IsBusyWrite, LeavesPlace, BusyLeavePlaces, ScheduledAreExplained}
use Rattle.history_runs.proofs.Admitted.{served, admitted}
use Rattle.history_runs.proofs.Steps.{Goes, goes_nowhere, goes_then, goes_seen, at_rest}
use Rattle.history_runs.proofs.Tracking.{Cell, Cells, IsTracked, IsOnCourse, Ready}
use Rattle.history_runs.proofs.Catching.{Catches, catch_up}
use Rattle.history_runs.proofs.Seeing.{seen_cells, AreCaughtUp}
use Rattle.history_runs.proofs.Calling.{Passes, call_passes, refused_ready, call_refused, refused_passes, IsSpared}
use Rattle.history_runs.proofs.Answering.{answer_passes}
use Rattle.srb.specs.declared.Kind.{Kind}
use Rattle.srb.specs.declared.Kind.TheVariants.{Read, Write, Flush}
use Rattle.history_runs.proofs.Failing.{ending, busy_answer}

-- WHAT FITS

fit_parts : (b rest : Bool) → (if b then rest else false) ≡ true → (b ≡ true) × (rest ≡ true)
fit_parts true rest e = (refl, e)
fit_parts false rest e = cc (e)

no_items : (xs : List ℕ) → length xs ≡ 0 → xs ≡ []
no_items [] e = refl
no_items (x ∷ xs) e = absurd (omega arith)

is_handle : (status : NtStatus) → value_of status ≡ value_of InvalidHandle → status ≡ InvalidHandle
is_handle InvalidHandle e = refl
is_handle _ e = absurd (omega arith)

is_parameter : (status : NtStatus) → value_of status ≡ value_of InvalidParameter → status ≡ InvalidParameter
is_parameter InvalidParameter e = refl
is_parameter _ e = absurd (omega arith)

is_success : (status : NtStatus) → value_of status ≡ value_of Success → status ≡ Success
is_success Success e = refl
is_success _ e = absurd (omega arith)

-- the number of a refusal's status tells it
told_is : (unknown unbound empty : Bool) (status told : NtStatus) → first_some (when unknown InvalidHandle ∷ when unbound InvalidParameter ∷ when empty Success ∷ []) ≡ Some status
    → value_of told ≡ value_of status → told ≡ status
told_is true unbound empty status told why e = let same : InvalidHandle ≡ status = cc (why) in is_handle told (e ∙ ap value_of (sym same)) ∙ same
told_is false true empty status told why e = let same : InvalidParameter ≡ status = cc (why) in is_parameter told (e ∙ ap value_of (sym same)) ∙ same
told_is false false true status told why e = let same : Success ≡ status = cc (why) in is_success told (e ∙ ap value_of (sym same)) ∙ same
told_is false false false status told why e = cc (why)

-- an answer that fits is to an open request
is_waiting : (found : Option (Option Asked)) (status : NtStatus) (informed count : ℕ) → ends_open found status informed count ≡ true → (a : Asked) × (found ≡ Some (Some a)) × (ends a status informed count ≡ true)
is_waiting (Some (Some a)) status informed count e = (a, refl, e)
is_waiting (Some None) status informed count e = cc (e)
is_waiting None status informed count e = cc (e)

-- a history is of calls and answers
shorter : (labels : List Label) → length (history_of labels) ≤ length labels
shorter [] = omega arith
shorter (Call number q ∷ labels) = let rest = shorter labels in omega arith
shorter (Answer number status informed bytes ∷ labels) = let rest = shorter labels in omega arith
shorter (Device label ∷ labels) = let rest = shorter labels in omega arith
shorter (Cancel number ∷ labels) = let rest = shorter labels in omega arith
shorter (Pause ∷ labels) = let rest = shorter labels in omega arith
shorter (Resume ∷ labels) = let rest = shorter labels in omega arith
shorter (Remove ∷ labels) = let rest = shorter labels in omega arith
shorter (Surprise ∷ labels) = let rest = shorter labels in omega arith
shorter (Removed ∷ labels) = let rest = shorter labels in omega arith

never_seen : (label : Label) (labels : List Label) → history_of labels ≡ label ∷ labels → ⊥
never_seen label labels e = let long : length (history_of labels) ≡ suc (length labels) = ap length e in let most = shorter labels in absurd (omega arith)

-- ITS RUN

-- what each sector's schedule has from the first event on leaves out a place of each write that is answered DEVICE_BUSY
abbrev AreSpared : Rules → List Label → (ℕ → ℕ → List Event) → Type 0
AreSpared rules history alls = (n : ℕ) (q : ClientRequest) → IsBusyWrite history n q
    → (place : ℕ) × (place < place_count rules q) × ((p i : ℕ) → i < sectors_of rules (Some p) → IsAt rules p i q place → All (IsNoEffect n) (alls p i))

module _ (rules : Rules) (room : IsAddressable rules) (history : List Label) (alls : ℕ → ℕ → List Event) (spared : AreSpared rules history alls) where
  -- the schedules are those from the start on, and the labels those of the history
  record Keeps (cells : Cells) (labels : List Label) : Type 0 where
    same : (p i : ℕ) → (cells p i).all ≡ alls p i
    part : (label : Label) → Contains labels label → Contains history label

  kept : (label : Label) (labels : List Label) (cells cells' : Cells) → Keeps cells (label ∷ labels) → ((p i : ℕ) → (cells' p i).all ≡ (cells p i).all) → Keeps cells' labels
  kept label labels cells cells' k same = record { same = λ p i. same p i ∙ k.same p i; part = λ other there. k.part other (further label labels other there) }

  abbrev Leads : List Label → List (List (List ℕ)) → ℕ → ℕ → List OpenRequest → Type 0
  Leads labels arrays next piece requests = (last : State) × Goes (served rules) (at_rest arrays next piece requests) labels last

  -- what goes on from a state at rest
  abbrev GoesOn : List Label → Type 0
  GoesOn labels = (asked : List (Option Asked)) (cells : Cells) (arrays : List (List (List ℕ))) (next piece : ℕ) (requests : List OpenRequest) → next ≡ length asked
      → Ready rules asked cells labels arrays next piece requests → all_fit rules asked None labels ≡ true → history_of labels ≡ labels → Keeps cells labels
      → Leads labels arrays next piece requests

  -- and where the schedules are behind a refused call, but not the machine
  abbrev GoesOnRefused : List Label → Type 0
  GoesOnRefused labels = (asked : List (Option Asked)) (cells : Cells) (arrays : List (List (List ℕ))) (next piece : ℕ) (requests : List OpenRequest) (n : ℕ) (q : ClientRequest) (status : NtStatus)
      → n ≡ next → next + 1 ≡ length asked → refused rules q ≡ Some status → q.bytes ≡ []
      → Ready rules asked cells labels arrays next piece requests → all_fit rules asked (Some status) labels ≡ true → history_of labels ≡ labels → Keeps cells labels
      → Leads (Call n q ∷ labels) arrays next piece requests

  caught_passes : (asked asked' : List (Option Asked)) (cells : Cells) (seen whole labels : List Label) (arrays : List (List (List ℕ))) (next piece : ℕ) (requests : List OpenRequest)
      → (c : Catches rules asked cells whole arrays next piece requests) → (p : Passes rules asked' c.cells' seen labels c.to.arrays' next c.to.piece' c.to.requests')
      → Leads labels p.arrays' p.next' p.piece' p.requests' → Leads (seen ++ labels) arrays next piece requests
  caught_passes asked asked' cells seen whole labels arrays next piece requests c p (last, goes) = (
    last,
    goes_then (served rules) (at_rest arrays next piece requests) (at_rest c.to.arrays' next c.to.piece' c.to.requests') last [] (seen ++ labels) c.to.goes
        (goes_then (served rules) (at_rest c.to.arrays' next c.to.piece' c.to.requests') (at_rest p.arrays' p.next' p.piece' p.requests') last seen labels p.goes goes),
  )

  on_call : (n : ℕ) (q : ClientRequest) (labels : List Label) → GoesOn labels → GoesOnRefused labels → GoesOn (Call n q ∷ labels)
  on_call n q labels on refused_on asked cells arrays next piece requests count ready fit seen keeps =
      let parts : (fits rules asked None (Call n q) ≡ true) × _ = fit_parts (fits rules asked None (Call n q)) _ fit in
      let tests = and_parts (n == length asked) (length q.bytes == carried (refused rules q) q) parts.0 in
      let number : n ≡ next = eqb-true n (length asked) tests.0 ∙ sym count in
      let found : (c : Catches rules asked cells (Call n q ∷ labels) arrays next piece requests) × AreCaughtUp rules c.cells' = catch_up rules room asked (Call n q ∷ labels) next cells arrays piece requests ready in
      by_answer found.0 found.1 number (refused rules q) refl (eqb-true (length q.bytes) (carried (refused rules q) q) tests.1) parts.1
    where
      spare : (c : Catches rules asked cells (Call n q ∷ labels) arrays next piece requests) → refused rules q ≡ None → ending n labels ≡ DeviceBusy → IsSpared rules c.cells' n q
      spare c taken busy = by_kind q.kind refl
        where
          found : (informed : ℕ) × (bytes : List ℕ) × Contains labels (Answer n DeviceBusy informed bytes)
          found = busy_answer n labels busy

          some_place : (q.kind ≡ Write → ⊥) → IsSpared rules c.cells' n q
          some_place other = record { place = 0; inside = (admitted rules q taken).some; idle = λ write. absurd (other write) }

          by_kind : (kind : Kind) → q.kind ≡ kind → IsSpared rules c.cells' n q
          by_kind Read e = some_place (λ write. cc (e, write))
          by_kind Flush e = some_place (λ write. cc (e, write))
          by_kind Write e =
              let s = spared n q (record {
                is_write = e;
                called = keeps.part (Call n q) (newest (Call n q) labels);
                informed = found.0;
                bytes = found.1;
                answered = keeps.part (Answer n DeviceBusy found.0 found.1) (further (Call n q) labels (Answer n DeviceBusy found.0 found.1) found.2);
              }) in
              record { place = s.0; inside = s.1; idle = λ write v w low at. subst (All (IsNoEffect n)) (sym (c.same v w ∙ keeps.same v w)) (s.2 v w low at) }

      by_answer : (c : Catches rules asked cells (Call n q ∷ labels) arrays next piece requests) → AreCaughtUp rules c.cells' → n ≡ next → (answer : Option NtStatus) → refused rules q ≡ answer
          → length q.bytes ≡ carried answer q → all_fit rules (asked ++ entry_of answer q ∷ []) answer labels ≡ true → Leads (Call n q ∷ labels) arrays next piece requests
      by_answer c caught number None taken carries fit' =
          let p = call_passes rules room asked c.cells' labels c.to.arrays' next c.to.piece' c.to.requests' n q c.to.ready caught number count taken carries (spare c taken) in
          caught_passes asked _ cells (Call n q ∷ []) (Call n q ∷ labels) labels arrays next piece requests c p
          (on _ p.cells' p.arrays' p.next' p.piece' p.requests' p.count p.ready fit' (cc (seen)) (kept (Call n q) labels cells p.cells' keeps (λ v w. p.same v w ∙ c.same v w)))
      by_answer c caught number (Some status) why carries fit' =
          let r = refused_ready rules room asked c.cells' labels c.to.arrays' next c.to.piece' c.to.requests' n q c.to.ready caught number count status why in
          let more : length (asked ++ None ∷ []) ≡ length asked + 1 = length-append asked (None ∷ []) in
          let rest : Leads (Call n q ∷ labels) c.to.arrays' next c.to.piece' c.to.requests' =
          refused_on _ (seen_cells (Call n q) c.cells') c.to.arrays' next c.to.piece' c.to.requests' n q status number (ap (λ m. m + 1) count ∙ sym more) why (no_items q.bytes carries) r fit' (cc (seen))
          (kept (Call n q) labels cells (seen_cells (Call n q) c.cells') keeps c.same) in
          (rest.0, goes_then (served rules) (at_rest arrays next piece requests) (at_rest c.to.arrays' next c.to.piece' c.to.requests') rest.0 [] (Call n q ∷ labels) c.to.goes rest.1)

  on_answer : (n : ℕ) (status : NtStatus) (informed : ℕ) (bytes : List ℕ) (labels : List Label) → GoesOn labels → GoesOn (Answer n status informed bytes ∷ labels)
  on_answer n status informed bytes labels on asked cells arrays next piece requests count ready fit seen keeps =
      let parts : (fits rules asked None (Answer n status informed bytes) ≡ true) × _ = fit_parts (fits rules asked None (Answer n status informed bytes)) _ fit in
      let waits = is_waiting (slice_get asked n) status informed (length bytes) parts.0 in
      let found : (c : Catches rules asked cells (Answer n status informed bytes ∷ labels) arrays next piece requests) × AreCaughtUp rules c.cells' =
      catch_up rules room asked (Answer n status informed bytes ∷ labels) next cells arrays piece requests ready in
      let c = found.0 in
      let p = answer_passes rules room asked c.cells' labels c.to.arrays' next c.to.piece' c.to.requests' n status informed bytes c.to.ready found.1 count waits.0 waits.1 waits.2 in
      caught_passes asked (set asked n None) cells (Answer n status informed bytes ∷ []) (Answer n status informed bytes ∷ labels) labels arrays next piece requests c p
      (on (set asked n None) p.cells' p.arrays' p.next' p.piece' p.requests' p.count p.ready parts.1 (cc (seen)) (kept (Answer n status informed bytes) labels cells p.cells' keeps (λ v w. p.same v w ∙ c.same v w)))

  on_refused : (m : ℕ) (told : NtStatus) (informed : ℕ) (bytes : List ℕ) (labels : List Label) → GoesOn labels → GoesOnRefused (Answer m told informed bytes ∷ labels)
  on_refused m told informed bytes labels on asked cells arrays next piece requests n q status number count why none ready fit seen keeps =
      let parts : (fits rules asked (Some status) (Answer m told informed bytes) ≡ true) × _ = fit_parts (fits rules asked (Some status) (Answer m told informed bytes)) _ fit in
      let tests = and_parts (m == length asked - 1) ((value_of told == value_of status) && ((informed == 0) && (length bytes == 0))) parts.0 in
      let tests' = and_parts (value_of told == value_of status) ((informed == 0) && (length bytes == 0)) tests.1 in
      let tests'' = and_parts (informed == 0) (length bytes == 0) tests'.1 in
      let last : m ≡ length asked - 1 = eqb-true m (length asked - 1) tests.0 in
      let found : (c : Catches rules asked cells (Answer m told informed bytes ∷ labels) arrays next piece requests) × AreCaughtUp rules c.cells' =
      catch_up rules room asked (Answer m told informed bytes ∷ labels) next cells arrays piece requests ready in
      let c = found.0 in
      let p = refused_passes rules asked c.cells' labels c.to.arrays' next c.to.piece' c.to.requests' n q status m told informed bytes c.to.ready found.1 number count why none
      (omega arith)
      (told_is (is_none q.partition) _ (is_transfer q.kind && (q.length == 0)) status told why (eqb-true (value_of told) (value_of status) tests'.0))
      (eqb-true informed 0 tests''.0) (no_items bytes (eqb-true (length bytes) 0 tests''.1)) in
      caught_passes asked asked cells (Call n q ∷ Answer m told informed bytes ∷ []) (Answer m told informed bytes ∷ labels) labels arrays next piece requests c p
      (on asked p.cells' p.arrays' p.next' p.piece' p.requests' p.count p.ready parts.1 (cc (seen)) (kept (Answer m told informed bytes) labels cells p.cells' keeps (λ v w. p.same v w ∙ c.same v w)))

  -- nothing comes behind a refused call
  none_behind : GoesOnRefused []
  none_behind asked cells arrays next piece requests n q status number count why none ready fit seen keeps =
      let owing : State = record (at_rest arrays (n + 1) piece requests) { owed = Some (record { number = n; status = status }) } in
      (owing, goes_seen (served rules) (at_rest arrays next piece requests) owing (Call n q) tt refl (call_refused rules arrays next piece requests n q status number why none))

  -- no other label is seen
  never : (label : Label) (labels : List Label) → (history_of (label ∷ labels) ≡ label ∷ labels → history_of labels ≡ label ∷ labels) → GoesOn (label ∷ labels) × GoesOnRefused (label ∷ labels)
  never label labels hides = (
    λ asked cells arrays next piece requests count ready fit seen keeps. absurd (never_seen label labels (hides seen)),
    λ asked cells arrays next piece requests n q status number count why none ready fit seen keeps. absurd (never_seen label labels (hides seen)),
  )

  goes_on : (labels : List Label) → GoesOn labels × GoesOnRefused labels
  goes_on [] = (λ asked cells arrays next piece requests count ready fit seen keeps. (at_rest arrays next piece requests, goes_nowhere (served rules) (at_rest arrays next piece requests)), none_behind)
  goes_on (Call n q ∷ labels) =
      let rest = goes_on labels in
      (on_call n q labels rest.0 rest.1, λ asked cells arrays next piece requests m r status number count why none ready fit seen keeps. cc (fit))
  goes_on (Answer n status informed bytes ∷ labels) = let rest = goes_on labels in (on_answer n status informed bytes labels rest.0, on_refused n status informed bytes labels rest.0)
  goes_on (Device label ∷ labels) = never (Device label) labels (λ seen. seen)
  goes_on (Cancel n ∷ labels) = never (Cancel n) labels (λ seen. seen)
  goes_on (Pause ∷ labels) = never Pause labels (λ seen. seen)
  goes_on (Resume ∷ labels) = never Resume labels (λ seen. seen)
  goes_on (Remove ∷ labels) = never Remove labels (λ seen. seen)
  goes_on (Surprise ∷ labels) = never Surprise labels (λ seen. seen)
  goes_on (Removed ∷ labels) = never Removed labels (λ seen. seen)

-- FROM THE START ON

module _ (rules : Rules) (arrays : List (List (List ℕ))) (history : List Label) (whole : AreWhole rules arrays) (schedules : AreScheduled rules arrays history) where
  abbrev cell_by : (p i : ℕ) (found : Option (List ℕ)) → slice_get (array_at arrays p) i ≡ found → Cell
  cell_by p i None e = record { start = []; past = []; rest = []; all = [] }
  cell_by p i (Some start) e = record { start = start; past = []; rest = (schedules p i start e).events; all = (schedules p i start e).events }

  abbrev at_first : Cells
  at_first p i = cell_by p i (slice_get (array_at arrays p) i) refl

  first_course : (p i : ℕ) → i < sectors_of rules (Some p) → IsOnCourse rules 1 history arrays [] p i (at_first p i)
  first_course p i within = by (slice_get (array_at arrays p) i) refl
    where
      by : (found : Option (List ℕ)) (e : slice_get (array_at arrays p) i ≡ found) → IsOnCourse rules 1 history arrays [] p i (cell_by p i found e)
      by None e =
          let long : sectors_of rules (Some p) ≤ length (array_at arrays p) = whole p in
          let there : slice_get (array_at arrays p) i ≡ Some (get_or (array_at arrays p) i []) = slice_get-get_or (array_at arrays p) i [] (omega arith) in
          absurd (cc (e, there))
      by (Some start) e = record {
        given = All-nil (IsBelow 1);
        follows = (schedules p i start e).in_turn;
        seen = (schedules p i start e).seen;
        part = λ n none. none;
        value = e;
        opens = λ m q is_open taken. absurd (nothing is_open.called);
      }
        where
          nothing : {event : Event} → Contains [] event → ⊥
          nothing (k, low, is) = absurd (omega arith)

  ready_at_first : Ready rules (None ∷ []) at_first history arrays 1 1 []
  ready_at_first = record {
    distinct = AreDistinct-opening arrays;
    tracked = All-nil (IsTracked rules at_first history);
    courses = first_course;
    awaited = λ n a has. absurd (none n a has);
  }
    where
      none : (n : ℕ) (a : Asked) → slice_get (None ∷ []) n ≡ Some (Some a) → ⊥
      none zero a e = cc (e)
      none (suc n) a e = cc (e)

  spared_at_first : BusyLeavePlaces rules arrays history schedules → AreSpared rules history (λ p i. (at_first p i).all)
  spared_at_first spared n q h = let s = spared n q h in (s.place, s.inside, λ p i low at. by s p i at (slice_get (array_at arrays p) i) refl)
    where
      by : (s : LeavesPlace rules arrays history schedules n q) (p i : ℕ) → IsAt rules p i q s.place → (found : Option (List ℕ)) (e : slice_get (array_at arrays p) i ≡ found) → All (IsNoEffect n) (cell_by p i found e).all
      by s p i at None e = All-nil (IsNoEffect n)
      by s p i at (Some start) e = s.idle p i start e at

pub scheduled_explained : ScheduledAreExplained
scheduled_explained rules arrays history room whole seen fit schedules spared =
    let found = (goes_on rules room history (λ p i. (at_first rules arrays history whole schedules p i).all) (spared_at_first rules arrays history whole schedules spared) history).0 (None ∷ [])
    (at_first rules arrays history whole schedules) arrays 1 1 [] refl (ready_at_first rules arrays history whole schedules) fit seen (record { same = λ p i. refl; part = λ label there. there }) in
    record {
      depth = 1;
      max_transfer = 1;
      window = None;
      labels = found.1.labels;
      last = found.0;
      run = found.1.run;
      of_service = found.1.serving;
      seen = found.1.seen;
    }
