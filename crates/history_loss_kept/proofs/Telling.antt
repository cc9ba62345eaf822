-- What is kept tells whether what is shown has a schedule.
use Rattle.std.proofs.Common.{◌≡◌, ℕ, ◌+◌, Bool, true, false, List, [], ◌∷◌, ◌++◌, None, refl, sym, ◌∙◌, ap, subst, append_assoc}
use Rattle.ntstatus.specs.declared.NtStatus.{NtStatus}
use Rattle.machine.specs.declared.ClientRequest.{ClientRequest}
use Rattle.machine.specs.declared.Label.{Label}
use Rattle.machine.specs.declared.Label.TheVariants.{Call, Device, Answer, Cancel, Pause, Resume, Remove, Surprise, Removed}
use Rattle.machine.specs.Rules.{Rules}
use Rattle.loss.specs.Sessions.{Line, Told, Lost, Ended}
use Rattle.loss.specs.Held.{IsOneOf}
use Rattle.register_loss.specs.declared.Sight.{Sight}
use Rattle.register_loss.specs.declared.Sight.TheVariants.{Lost as LostSight, Ended as EndedSight}
use Rattle.register_loss.specs.Schedules.{HasSchedule, opening}
use Rattle.history_loss_fits.specs.Laws.{labels_fit}
use Rattle.history_loss_sights.specs.Sights.{success_bytes, success_of}
use Rattle.history_loss_kept.specs.declared.Own.{Own}
use Rattle.history_loss_kept.specs.declared.Outcome.TheVariants.{Open, Done as IsDone, Failed as HasFailed}
use Rattle.history_loss_kept.specs.declared.Shared.{Shared}
use Rattle.history_loss_kept.specs.declared.Shared.TheVariants.{Call as SharedCall, End}
use Rattle.history_loss_kept.specs.Kept.{Kept, Session, kept_after, kept_of, known, merged, no_session, nothing_kept, seen_by, seen_in, shared_sights, step}
use Rattle.history_loss_kept.specs.Laws.{KeptTellAll, KeptTellSteady}
use Rattle.history_loss_kept.proofs.Steps.{Shows, scheduled, shows}
use Rattle.history_loss_kept.proofs.Marks.{AreNumbered, AreSecured, Mark, full, kept, last_sight}
use Rattle.history_loss_kept.proofs.Seeing.{near_opening}
use Rattle.history_loss_kept.proofs.Trimming.{trimmed, untrimmed}
use Rattle.history_loss_kept.proofs.Beside.{beside_opening}
use Rattle.history_loss_kept.proofs.Securing.{Will, secured, unsecured}
use Rattle.history_loss_kept.proofs.Idling.{AreShared, idle_alone, idle_before, idle_over, session_then, shared_append}
use Rattle.history_loss_kept.proofs.Items.{Item, Ow, Sh, any_own, any_sync, call_items, end_items, fills, flat, merged_is, owns, session_of, settles, shareds}
use Rattle.history_loss_kept.proofs.Dues.{AllClosed, all_closed_append, closed_answered, closed_called, closed_end, dues, dues_answered, dues_append, dues_none, dues_same, kept_append, kept_call, kept_end}
use Rattle.history_loss_kept.proofs.Fitting.{IsCounted, fitting_counted}
use Rattle.history_loss_kept.proofs.Marking.{after, are_secured, label_marks, marks_of, session_step, shows_all, shows_steady}
use Rattle.history_loss_kept.proofs.Numbering.{numbered}

-- MARKS

numbered_marks : (code : List ℕ → ℕ) (rules : Rules) (i : ℕ) (all : Bool) (history : List Line) → labels_fit rules (None ∷ []) None history ≡ true → AreNumbered 1 [] (marks_of code rules i all [] history)
numbered_marks code rules i all history fit = numbered code rules i all history [] 1 [] [] (fitting_counted rules history fit) (λ m none. absurd none)

module _ (ms : List Mark) (start : ℕ) (num : AreNumbered 1 [] ms) (sure : AreSecured ms) where
  kept_full : Shows (kept ms) (opening start) → Shows (full ms) (opening start)
  kept_full h =
      unsecured ms 1 [] num sure (opening start) (opening start) (beside_opening (Will (full ms)) start)
      (untrimmed ms 1 [] num (opening start) (opening start) (near_opening start) h)

  full_kept : Shows (full ms) (opening start) → Shows (kept ms) (opening start)
  full_kept h =
      trimmed ms 1 [] num (opening start) (opening start) (near_opening start)
      (secured ms 1 [] num sure (opening start) (opening start) (beside_opening (Will (full ms)) start) h)

-- SESSIONS

seen_shared : (all : Bool) (one : Shared) → AreShared (shared_sights all one)
seen_shared true (SharedCall n true Open) = (refl, tt)
seen_shared true (SharedCall n true IsDone) = (refl, tt)
seen_shared true (SharedCall n true HasFailed) = (refl, tt)
seen_shared true (SharedCall n false Open) = (refl, tt)
seen_shared true (SharedCall n false IsDone) = tt
seen_shared true (SharedCall n false HasFailed) = (refl, tt)
seen_shared false (SharedCall n true Open) = tt
seen_shared false (SharedCall n true IsDone) = (refl, tt)
seen_shared false (SharedCall n true HasFailed) = tt
seen_shared false (SharedCall n false Open) = tt
seen_shared false (SharedCall n false IsDone) = tt
seen_shared false (SharedCall n false HasFailed) = tt
seen_shared all (End n true) = (tt, tt)
seen_shared all (End n false) = (tt, tt)

idle_shared : (all : Bool) (k : ℕ) (its : List Item) → owns k its ≡ [] → AreShared (flat all its)
idle_shared all k [] e = tt
idle_shared all k (Sh one ∷ its) e = shared_append (shared_sights all one) (flat all its) (seen_shared all one) (idle_shared all (k + 1) its e)
idle_shared all k (Ow wait ∷ its) e = absurd (cc (e))

busy_seen : (all : Bool) (its : List Item) (last : List Sight) (o : Own) (own : List Own) → owns 0 its ≡ o ∷ own → seen_in all (session_of its) last ≡ flat all its ++ last
busy_seen all its last o own e =
    ap (λ (x : List Own). seen_by all (shareds its) last x) e ∙ ap (λ (x : List Own). merged all 0 x (shareds its) ++ last) (sym e) ∙ ap (λ xs. xs ++ last) (merged_is all its)

idle_seen : (all : Bool) (its : List Item) (last : List Sight) → owns 0 its ≡ [] → seen_in all (session_of its) last ≡ []
idle_seen all its last e = ap (λ (x : List Own). seen_by all (shareds its) last x) e

module _ (all : Bool) (its : List Item) (lost : Bool) (rest rest' : List Sight) (v : ℕ) where
  -- the last line of a session
  over_on : ((w : ℕ) → Shows rest (opening w) → Shows rest' (opening w)) → Shows (seen_in all (session_of its) (last_sight lost ∷ []) ++ rest) (opening v) → Shows (flat all its ++ last_sight lost ∷ rest') (opening v)
  over_on f h = by (owns 0 its) refl
    where
      by : (own : List Own) → owns 0 its ≡ own → Shows (flat all its ++ last_sight lost ∷ rest') (opening v)
      by [] e = idle_before v lost (flat all its) rest' (idle_shared all 0 its e) (f v (subst (λ xs. Shows (xs ++ rest) (opening v)) (idle_seen all its (last_sight lost ∷ []) e) h))
      by (o ∷ own) e =
          session_then lost (flat all its) rest rest' f (opening v)
          (subst (λ xs. Shows xs (opening v)) (ap (λ xs. xs ++ rest) (busy_seen all its (last_sight lost ∷ []) o own e) ∙ append_assoc (flat all its) (last_sight lost ∷ []) rest) h)

  over_back : ((w : ℕ) → Shows rest' (opening w) → Shows rest (opening w)) → Shows (flat all its ++ last_sight lost ∷ rest') (opening v) → Shows (seen_in all (session_of its) (last_sight lost ∷ []) ++ rest) (opening v)
  over_back f h = by (owns 0 its) refl
    where
      by : (own : List Own) → owns 0 its ≡ own → Shows (seen_in all (session_of its) (last_sight lost ∷ []) ++ rest) (opening v)
      by [] e = subst (λ xs. Shows (xs ++ rest) (opening v)) (sym (idle_seen all its (last_sight lost ∷ []) e)) (f v (idle_over v lost (flat all its) rest' (idle_shared all 0 its e) h))
      by (o ∷ own) e =
          subst (λ xs. Shows xs (opening v)) (sym (ap (λ xs. xs ++ rest) (busy_seen all its (last_sight lost ∷ []) o own e) ∙ append_assoc (flat all its) (last_sight lost ∷ []) rest))
          (session_then lost (flat all its) rest' rest f (opening v) h)

module _ (all : Bool) (its : List Item) (v : ℕ) where
  -- the session that goes on
  end_on : Shows (seen_in all (session_of its) []) (opening v) → Shows (flat all its ++ []) (opening v)
  end_on h = by (owns 0 its) refl
    where
      by : (own : List Own) → owns 0 its ≡ own → Shows (flat all its ++ []) (opening v)
      by [] e = idle_alone v (flat all its) (idle_shared all 0 its e)
      by (o ∷ own) e = subst (λ xs. Shows xs (opening v)) (busy_seen all its [] o own e) h

  end_back : Shows (flat all its ++ []) (opening v) → Shows (seen_in all (session_of its) []) (opening v)
  end_back h = by (owns 0 its) refl
    where
      by : (own : List Own) → owns 0 its ≡ own → Shows (seen_in all (session_of its) []) (opening v)
      by [] e = subst (λ xs. Shows xs (opening v)) (sym (idle_seen all its [] e)) tt
      by (o ∷ own) e = subst (λ xs. Shows xs (opening v)) (sym (busy_seen all its [] o own e)) h

-- LINE BY LINE

module _ (code : List ℕ → ℕ) (rules : Rules) (i : ℕ) (all : Bool) where
  -- what is seen from a session on
  abbrev tail : Session → List Line → List Sight
  tail s [] = seen_in all s []
  tail s (Told label ∷ lines) = tail (step code rules i s label) lines
  tail s (Lost ∷ lines) = seen_in all s (LostSight ∷ []) ++ tail no_session lines
  tail s (Ended ∷ lines) = seen_in all s (EndedSight ∷ []) ++ tail no_session lines

  known_tail : (lines : List Line) (k : Kept) → known all (kept_of code all rules i k lines) ≡ k.past ++ tail k.session lines
  known_tail [] k = refl
  known_tail (Told label ∷ lines) k = known_tail lines (kept_after code all rules i k (Told label))
  known_tail (Lost ∷ lines) k = known_tail lines (kept_after code all rules i k Lost) ∙ append_assoc k.past (seen_in all k.session (LostSight ∷ [])) (tail no_session lines)
  known_tail (Ended ∷ lines) k = known_tail lines (kept_after code all rules i k Ended) ∙ append_assoc k.past (seen_in all k.session (EndedSight ∷ [])) (tail no_session lines)

  -- what comes of these items and lines
  abbrev come : List Item → List Line → List Sight
  come its lines = dues code rules i all lines its ++ kept (marks_of code rules i all its lines)

  come_call : (its : List Item) (n : ℕ) (q : ClientRequest) (lines : List Line) → come (after code rules i its (Call n q)) lines ≡ come its (Told (Call n q) ∷ lines)
  come_call its n q lines =
      ap (λ xs. xs ++ kept rest) (dues_append code rules i all lines its (call_items code rules i n q) ∙ ap (λ xs. dues code rules i all lines its ++ xs) (sym (kept_call code rules i all lines n q)))
      ∙ append_assoc (dues code rules i all lines its) (kept marks) (kept rest)
      ∙ ap (λ xs. dues code rules i all lines its ++ xs) (sym (kept_append marks rest))
      ∙ ap (λ xs. xs ++ kept (marks ++ rest)) (dues_same code rules i all lines (Told (Call n q) ∷ lines) (λ k. refl) its)
    where
      marks : List Mark
      marks = label_marks code rules i all its (Call n q) lines

      rest : List Mark
      rest = marks_of code rules i all (after code rules i its (Call n q)) lines

  come_answer : (its : List Item) (done : List ℕ) (n : ℕ) (status : NtStatus) (informed : ℕ) (bytes : List ℕ) (lines : List Line) → (IsOneOf n done → ⊥) → AllClosed done its
      → come (after code rules i its (Answer n status informed bytes)) lines ≡ come its (Told (Answer n status informed bytes) ∷ lines)
  come_answer its done n status informed bytes lines fresh closed =
      ap (λ xs. xs ++ kept rest) (dues_append code rules i all lines front ends ∙ ap (λ xs. xs ++ dues code rules i all lines ends) (sym (dues_answered code rules i all n status informed bytes lines done fresh its closed)))
      ∙ append_assoc (dues code rules i all (Told (Answer n status informed bytes) ∷ lines) its) (dues code rules i all lines ends) (kept rest)
      ∙ ap (λ xs. dues code rules i all (Told (Answer n status informed bytes) ∷ lines) its ++ (xs ++ kept rest)) (sym (kept_end code rules i all lines n status (any_sync code rules n (success_bytes status bytes) its) (any_own code rules n (success_bytes status bytes) its)))
      ∙ ap (λ xs. dues code rules i all (Told (Answer n status informed bytes) ∷ lines) its ++ xs) (sym (kept_append marks rest))
    where
      front : List Item
      front = settles n status (fills code rules n (success_bytes status bytes) its)

      ends : List Item
      ends = end_items n status (any_sync code rules n (success_bytes status bytes) its) (any_own code rules n (success_bytes status bytes) its)

      marks : List Mark
      marks = label_marks code rules i all its (Answer n status informed bytes) lines

      rest : List Mark
      rest = marks_of code rules i all (after code rules i its (Answer n status informed bytes)) lines

  come_same : (its : List Item) (lines lines' : List Line) → ((n : ℕ) → success_of n lines ≡ success_of n lines') → (ms : List Mark) → dues code rules i all lines its ++ kept ms ≡ dues code rules i all lines' its ++ kept ms
  come_same its lines lines' h ms = ap (λ xs. xs ++ kept ms) (dues_same code rules i all lines lines' h its)

  abbrev Tells : List Item → List Line → Type 0
  Tells its lines = (v : ℕ) → (Shows (tail (session_of its) lines) (opening v) → Shows (come its lines) (opening v)) × (Shows (come its lines) (opening v) → Shows (tail (session_of its) lines) (opening v))

  tells_step : (its : List Item) (label : Label) (lines : List Line) → come (after code rules i its label) lines ≡ come its (Told label ∷ lines) → Tells (after code rules i its label) lines → Tells its (Told label ∷ lines)
  tells_step its label lines same rest v = (
    λ h. subst (λ xs. Shows xs (opening v)) same ((rest v).0 (subst (λ s. Shows (tail s lines) (opening v)) (sym (session_step code rules i its label)) h)),
    λ h. subst (λ s. Shows (tail s lines) (opening v)) (session_step code rules i its label) ((rest v).1 (subst (λ xs. Shows xs (opening v)) (sym same) h)),
  )

  tells_last : (its : List Item) (lost : Bool) (line : Line) (lines : List Line) → ((n : ℕ) → success_of n (line ∷ lines) ≡ None) → Tells [] lines → (v : ℕ)
      → (Shows (seen_in all (session_of its) (last_sight lost ∷ []) ++ tail no_session lines) (opening v) → Shows (dues code rules i all (line ∷ lines) its ++ last_sight lost ∷ kept (marks_of code rules i all [] lines)) (opening v))
      × (Shows (dues code rules i all (line ∷ lines) its ++ last_sight lost ∷ kept (marks_of code rules i all [] lines)) (opening v) → Shows (seen_in all (session_of its) (last_sight lost ∷ []) ++ tail no_session lines) (opening v))
  tells_last its lost line lines none rest v = (
    λ h. subst (λ xs. Shows (xs ++ last_sight lost ∷ kept (marks_of code rules i all [] lines)) (opening v)) (sym (dues_none code rules i all (line ∷ lines) none its))
        (over_on all its lost (tail no_session lines) (kept (marks_of code rules i all [] lines)) v (λ w. (rest w).0) h),
    λ h. over_back all its lost (tail no_session lines) (kept (marks_of code rules i all [] lines)) v (λ w. (rest w).1)
        (subst (λ xs. Shows (xs ++ last_sight lost ∷ kept (marks_of code rules i all [] lines)) (opening v)) (dues_none code rules i all (line ∷ lines) none its) h),
  )

  tells_here : (its : List Item) → Tells its []
  tells_here its v = (
    λ h. subst (λ xs. Shows (xs ++ []) (opening v)) (sym (dues_none code rules i all [] (λ n. refl) its)) (end_on all its v h),
    λ h. end_back all its v (subst (λ xs. Shows (xs ++ []) (opening v)) (dues_none code rules i all [] (λ n. refl) its) h),
  )

  tells : (lines : List Line) (its : List Item) (next : ℕ) (done : List ℕ) → IsCounted next done lines → AllClosed done its → Tells its lines
  tells [] its next done count closed = tells_here its
  tells (Lost ∷ lines) its next done count closed = tells_last its true Lost lines (λ n. refl) (tells lines [] 1 [] count tt)
  tells (Ended ∷ lines) its next done count closed = tells_last its false Ended lines (λ n. refl) (tells lines [] 1 [] count tt)
  tells (Told (Call n q) ∷ lines) its next done count closed =
      tells_step its (Call n q) lines (come_call its n q lines)
      (tells lines (after code rules i its (Call n q)) (next + 1) done count.1 (all_closed_append done its (call_items code rules i n q) closed (closed_called code rules i done n q)))
  tells (Told (Answer n status informed bytes) ∷ lines) its next done count closed =
      tells_step its (Answer n status informed bytes) lines (come_answer its done n status informed bytes lines count.0 closed)
      (tells lines (after code rules i its (Answer n status informed bytes)) next (n ∷ done) count.1
      (all_closed_append (n ∷ done) (settles n status (fills code rules n (success_bytes status bytes) its)) (end_items n status (any_sync code rules n (success_bytes status bytes) its) (any_own code rules n (success_bytes status bytes) its))
      (closed_answered code rules done n status (success_bytes status bytes) its closed)
      (closed_end (n ∷ done) n status (any_sync code rules n (success_bytes status bytes) its) (any_own code rules n (success_bytes status bytes) its))))
  tells (Told (Device label) ∷ lines) its next done count closed =
      tells_step its (Device label) lines (come_same its lines (Told (Device label) ∷ lines) (λ n. refl) (marks_of code rules i all its lines)) (tells lines its next done count closed)
  tells (Told (Cancel n) ∷ lines) its next done count closed =
      tells_step its (Cancel n) lines (come_same its lines (Told (Cancel n) ∷ lines) (λ n. refl) (marks_of code rules i all its lines)) (tells lines its next done count closed)
  tells (Told Pause ∷ lines) its next done count closed =
      tells_step its Pause lines (come_same its lines (Told Pause ∷ lines) (λ n. refl) (marks_of code rules i all its lines)) (tells lines its next done count closed)
  tells (Told Resume ∷ lines) its next done count closed =
      tells_step its Resume lines (come_same its lines (Told Resume ∷ lines) (λ n. refl) (marks_of code rules i all its lines)) (tells lines its next done count closed)
  tells (Told Remove ∷ lines) its next done count closed =
      tells_step its Remove lines (come_same its lines (Told Remove ∷ lines) (λ n. refl) (marks_of code rules i all its lines)) (tells lines its next done count closed)
  tells (Told Surprise ∷ lines) its next done count closed =
      tells_step its Surprise lines (come_same its lines (Told Surprise ∷ lines) (λ n. refl) (marks_of code rules i all its lines)) (tells lines its next done count closed)
  tells (Told Removed ∷ lines) its next done count closed =
      tells_step its Removed lines (come_same its lines (Told Removed ∷ lines) (λ n. refl) (marks_of code rules i all its lines)) (tells lines its next done count closed)

-- THE LAWS

module _ (code : List ℕ → ℕ) (rules : Rules) (i start : ℕ) (all : Bool) (history : List Line) (fit : labels_fit rules (None ∷ []) None history ≡ true) where
  told : Tells code rules i all [] history
  told = tells code rules i all history [] 1 [] (fitting_counted rules history fit) tt

  to_full : HasSchedule start (known all (kept_of code all rules i nothing_kept history)) → Shows (full (marks_of code rules i all [] history)) (opening start)
  to_full h =
      kept_full (marks_of code rules i all [] history) start (numbered_marks code rules i all history fit) (are_secured code rules i all history [])
      ((told start).0 (subst (λ xs. Shows xs (opening start)) (known_tail code rules i all history nothing_kept) (shows start (known all (kept_of code all rules i nothing_kept history)) h)))

  from_full : Shows (full (marks_of code rules i all [] history)) (opening start) → HasSchedule start (known all (kept_of code all rules i nothing_kept history))
  from_full h =
      scheduled start (known all (kept_of code all rules i nothing_kept history))
      (subst (λ xs. Shows xs (opening start)) (sym (known_tail code rules i all history nothing_kept))
      ((told start).1 (full_kept (marks_of code rules i all [] history) start (numbered_marks code rules i all history fit) (are_secured code rules i all history []) h)))

pub tell_all : KeptTellAll
tell_all code rules i start history fit = (
  λ h. scheduled start _ (subst (λ xs. Shows xs (opening start)) (shows_all code rules i [] history) (to_full code rules i start true history fit h)),
  λ h. from_full code rules i start true history fit (subst (λ xs. Shows xs (opening start)) (sym (shows_all code rules i [] history)) (shows start _ h)),
)

pub tell_steady : KeptTellSteady
tell_steady code rules i start history fit = (
  λ h. scheduled start _ (subst (λ xs. Shows xs (opening start)) (shows_steady code rules i [] history) (to_full code rules i start false history fit h)),
  λ h. from_full code rules i start false history fit (subst (λ xs. Shows xs (opening start)) (sym (shows_steady code rules i [] history)) (shows start _ h)),
)
