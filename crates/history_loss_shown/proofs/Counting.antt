-- Calls of a history that fits count up, and it has no lines but calls, answers, losses and ends.
use Rattle.std.proofs.Common.{◌≡◌, ◌≤◌, ◌⊎◌, inl, inr, ℕ, suc, Bool, true, false, List, [], ◌∷◌, ◌++◌, Option, Some, None, refl, sym, ◌∙◌, ap, subst, arith, length, length-append, map}
use Rattle.std.specs.Prelude.{All, is_none}
use Rattle.std.proofs.lemmas.List.{length-set}
use Rattle.std.proofs.lemmas.List.Elements.{All-nil, All-cons}
use Rattle.ntstatus.specs.declared.NtStatus.{NtStatus}
use Rattle.srb.specs.declared.Kind.{Kind}
use Rattle.machine.specs.declared.ClientRequest.{ClientRequest}
use Rattle.machine.specs.declared.Label.TheVariants.{Call, Device, Answer, Cancel, Pause, Resume, Remove, Surprise, Removed}
use Rattle.machine.specs.Rules.{Rules}
use Rattle.history_laws.specs.declared.Asked.{Asked}
use Rattle.history_laws.specs.Fitting.{asked_after, entry_of, fits, owed_after, refused, without}
use Rattle.loss.specs.Sessions.{Line, Told, Lost, Ended}
use Rattle.history_loss.specs.Histories.{seen_of}
use Rattle.history_loss.specs.Schedules.{Event, Seen, Effect, Fails, IsNoFailure, IsOpen, lines_of, shared_of}
use Rattle.history_loss_runs.specs.Laws.{all_fit_over}
use Rattle.history_loss_fits.specs.Laws.{labels_fit}
use Rattle.register_loss.specs.declared.Sight.{Sight}
use Rattle.register_loss.specs.declared.Sight.TheVariants.{Call as CallSight, Elsewhere, Lost as LostSight, Ended as EndedSight}
use Rattle.history_loss_sights.specs.Sights.{AreCounted, end_of, moves_of, sights_of, success_of, syncs}
use Rattle.history_loss_shown.specs.Steady.{AllSynced, steady_sights_of, steady_syncs}
use Rattle.history_loss_shown.proofs.Fitting.{Known, answer_known, answers_open, call_known, call_number, fit_parts, nothing_known}
use Rattle.history_loss_shown.proofs.Sharing.{Serves}
use Rattle.history_loss_shown.proofs.Stuck.{AreShown}

-- LINES

shorter : (lines : List Line) → length (seen_of lines) ≤ length lines
shorter [] = omega arith
shorter (Lost ∷ lines) = let h : length (seen_of lines) ≤ length lines = shorter lines in omega (arith, h)
shorter (Ended ∷ lines) = let h : length (seen_of lines) ≤ length lines = shorter lines in omega (arith, h)
shorter (Told (Call n q) ∷ lines) = let h : length (seen_of lines) ≤ length lines = shorter lines in omega (arith, h)
shorter (Told (Answer n status informed bytes) ∷ lines) = let h : length (seen_of lines) ≤ length lines = shorter lines in omega (arith, h)
shorter (Told (Device label) ∷ lines) = let h : length (seen_of lines) ≤ length lines = shorter lines in omega (arith, h)
shorter (Told (Cancel n) ∷ lines) = let h : length (seen_of lines) ≤ length lines = shorter lines in omega (arith, h)
shorter (Told Pause ∷ lines) = let h : length (seen_of lines) ≤ length lines = shorter lines in omega (arith, h)
shorter (Told Resume ∷ lines) = let h : length (seen_of lines) ≤ length lines = shorter lines in omega (arith, h)
shorter (Told Remove ∷ lines) = let h : length (seen_of lines) ≤ length lines = shorter lines in omega (arith, h)
shorter (Told Surprise ∷ lines) = let h : length (seen_of lines) ≤ length lines = shorter lines in omega (arith, h)
shorter (Told Removed ∷ lines) = let h : length (seen_of lines) ≤ length lines = shorter lines in omega (arith, h)

longer : (line : Line) (lines : List Line) → seen_of lines ≡ line ∷ lines → ⊥
longer line lines e =
    let h : length (seen_of lines) ≤ length lines = shorter lines in
    let same : length (seen_of lines) ≡ suc (length lines) = ap length e in
    absurd (omega (arith, h, same))

pub are_shown : (lines : List Line) → seen_of lines ≡ lines → AreShown lines
are_shown [] e = tt
are_shown (Lost ∷ lines) e = (tt, are_shown lines (cc (e)))
are_shown (Ended ∷ lines) e = (tt, are_shown lines (cc (e)))
are_shown (Told (Call n q) ∷ lines) e = (tt, are_shown lines (cc (e)))
are_shown (Told (Answer n status informed bytes) ∷ lines) e = (tt, are_shown lines (cc (e)))
are_shown (Told (Device label) ∷ lines) e = absurd (longer (Told (Device label)) lines e)
are_shown (Told (Cancel n) ∷ lines) e = absurd (longer (Told (Cancel n)) lines e)
are_shown (Told Pause ∷ lines) e = absurd (longer (Told Pause) lines e)
are_shown (Told Resume ∷ lines) e = absurd (longer (Told Resume) lines e)
are_shown (Told Remove ∷ lines) e = absurd (longer (Told Remove) lines e)
are_shown (Told Surprise ∷ lines) e = absurd (longer (Told Surprise) lines e)
are_shown (Told Removed ∷ lines) e = absurd (longer (Told Removed) lines e)

-- NUMBERS

same_length : (asked : List (Option Asked)) (owed : Option NtStatus) (n : ℕ) → length (without asked owed n) ≡ length asked
same_length asked None n = length-set asked n None
same_length asked (Some status) n = refl

pub are_counted : (rules : Rules) (lines : List Line) (asked : List (Option Asked)) (owed : Option NtStatus) → AreShown lines → all_fit_over rules asked owed lines ≡ true → AreCounted (length asked) lines
are_counted rules [] asked owed shown fit = tt
are_counted rules (Lost ∷ lines) asked owed shown fit = are_counted rules lines (None ∷ []) None shown.1 (fit_parts (is_none owed) (all_fit_over rules (None ∷ []) None lines) fit).1
are_counted rules (Ended ∷ lines) asked owed shown fit = are_counted rules lines (None ∷ []) None shown.1 (fit_parts (is_none owed) (all_fit_over rules (None ∷ []) None lines) fit).1
are_counted rules (Told (Call n q) ∷ lines) asked owed shown fit =
    let parts : (fits rules asked owed (Call n q) ≡ true) × (all_fit_over rules (asked_after rules asked owed (Call n q)) (owed_after rules owed (Call n q)) lines ≡ true) =
    fit_parts (fits rules asked owed (Call n q)) (all_fit_over rules (asked_after rules asked owed (Call n q)) (owed_after rules owed (Call n q)) lines) fit in (
      call_number rules asked owed n q parts.0,
      subst (λ k. AreCounted k lines) (length-append asked (entry_of (refused rules q) q ∷ [])) (are_counted rules lines (asked_after rules asked owed (Call n q)) (owed_after rules owed (Call n q)) shown.1 parts.1),
    )
are_counted rules (Told (Answer n status informed bytes) ∷ lines) asked owed shown fit =
    let parts : (fits rules asked owed (Answer n status informed bytes) ≡ true) × (all_fit_over rules (without asked owed n) None lines ≡ true) =
    fit_parts (fits rules asked owed (Answer n status informed bytes)) (all_fit_over rules (without asked owed n) None lines) fit in
    subst (λ k. AreCounted k lines) (same_length asked owed n) (are_counted rules lines (without asked owed n) None shown.1 parts.1)
are_counted rules (Told (Device label) ∷ lines) asked owed shown fit = absurd shown.0
are_counted rules (Told (Cancel n) ∷ lines) asked owed shown fit = absurd shown.0
are_counted rules (Told Pause ∷ lines) asked owed shown fit = absurd shown.0
are_counted rules (Told Resume ∷ lines) asked owed shown fit = absurd shown.0
are_counted rules (Told Remove ∷ lines) asked owed shown fit = absurd shown.0
are_counted rules (Told Surprise ∷ lines) asked owed shown fit = absurd shown.0
are_counted rules (Told Removed ∷ lines) asked owed shown fit = absurd shown.0

pub counted_by : (rules : Rules) (lines : List Line) (asked : List (Option Asked)) (owed : Option NtStatus) → labels_fit rules asked owed lines ≡ true → AreCounted (length asked) lines
counted_by rules [] asked owed fit = tt
counted_by rules (Lost ∷ lines) asked owed fit = counted_by rules lines (None ∷ []) None fit
counted_by rules (Ended ∷ lines) asked owed fit = counted_by rules lines (None ∷ []) None fit
counted_by rules (Told (Call n q) ∷ lines) asked owed fit =
    let parts : (fits rules asked owed (Call n q) ≡ true) × (labels_fit rules (asked_after rules asked owed (Call n q)) (owed_after rules owed (Call n q)) lines ≡ true) =
    fit_parts (fits rules asked owed (Call n q)) (labels_fit rules (asked_after rules asked owed (Call n q)) (owed_after rules owed (Call n q)) lines) fit in (
      call_number rules asked owed n q parts.0,
      subst (λ k. AreCounted k lines) (length-append asked (entry_of (refused rules q) q ∷ [])) (counted_by rules lines (asked_after rules asked owed (Call n q)) (owed_after rules owed (Call n q)) parts.1),
    )
counted_by rules (Told (Answer n status informed bytes) ∷ lines) asked owed fit =
    let parts : (fits rules asked owed (Answer n status informed bytes) ≡ true) × (labels_fit rules (without asked owed n) None lines ≡ true) =
    fit_parts (fits rules asked owed (Answer n status informed bytes)) (labels_fit rules (without asked owed n) None lines) fit in
    subst (λ k. AreCounted k lines) (same_length asked owed n) (counted_by rules lines (without asked owed n) None parts.1)
counted_by rules (Told (Device label) ∷ lines) asked owed fit = counted_by rules lines asked owed fit
counted_by rules (Told (Cancel n) ∷ lines) asked owed fit = counted_by rules lines asked owed fit
counted_by rules (Told Pause ∷ lines) asked owed fit = counted_by rules lines asked owed fit
counted_by rules (Told Resume ∷ lines) asked owed fit = counted_by rules lines asked owed fit
counted_by rules (Told Remove ∷ lines) asked owed fit = counted_by rules lines asked owed fit
counted_by rules (Told Surprise ∷ lines) asked owed fit = counted_by rules lines asked owed fit
counted_by rules (Told Removed ∷ lines) asked owed fit = counted_by rules lines asked owed fit

-- THE LINES THEMSELVES

abbrev pub told : List Line → List Event
told [] = []
told (line ∷ lines) = Seen line ∷ told lines

pub lines_serve : (rules : Rules) (lines : List Line) (past : List Event) (asked : List (Option Asked)) (owed : Option NtStatus) → AreShown lines → all_fit_over rules asked owed lines ≡ true → Known past asked owed
    → ((n place : ℕ) → All (IsNoFailure n place) past) → Serves rules past (told lines)
lines_serve rules [] past asked owed shown fit known sound = tt
lines_serve rules (Lost ∷ lines) past asked owed shown fit known sound = (tt, lines_serve rules lines [] (None ∷ []) None shown.1 (fit_parts (is_none owed) (all_fit_over rules (None ∷ []) None lines) fit).1 nothing_known (λ n place. All-nil (IsNoFailure n place)))
lines_serve rules (Ended ∷ lines) past asked owed shown fit known sound = (tt, lines_serve rules lines [] (None ∷ []) None shown.1 (fit_parts (is_none owed) (all_fit_over rules (None ∷ []) None lines) fit).1 nothing_known (λ n place. All-nil (IsNoFailure n place)))
lines_serve rules (Told (Call n q) ∷ lines) past asked owed shown fit known sound =
    let parts : (fits rules asked owed (Call n q) ≡ true) × (all_fit_over rules (asked_after rules asked owed (Call n q)) (owed_after rules owed (Call n q)) lines ≡ true) =
    fit_parts (fits rules asked owed (Call n q)) (all_fit_over rules (asked_after rules asked owed (Call n q)) (owed_after rules owed (Call n q)) lines) fit in (
      tt,
      lines_serve rules lines (Seen (Told (Call n q)) ∷ past) (asked_after rules asked owed (Call n q)) (owed_after rules owed (Call n q)) shown.1 parts.1
          (call_known rules n q past asked owed (call_number rules asked owed n q parts.0) known)
          (λ m place. All-cons (IsNoFailure m place) (Seen (Told (Call n q))) past tt (sound m place)),
    )
lines_serve rules (Told (Answer n status informed bytes) ∷ lines) past asked owed shown fit known sound =
    let parts : (fits rules asked owed (Answer n status informed bytes) ≡ true) × (all_fit_over rules (without asked owed n) None lines ≡ true) =
    fit_parts (fits rules asked owed (Answer n status informed bytes)) (all_fit_over rules (without asked owed n) None lines) fit in
    let was : (q : ClientRequest) × IsOpen past n q = answers_open n status informed bytes past asked owed parts.0 known in (
      (was.0, was.1, λ good place low. sound n place),
      lines_serve rules lines (Seen (Told (Answer n status informed bytes)) ∷ past) (without asked owed n) None shown.1 parts.1 (answer_known n status informed bytes past asked owed parts.0 known)
          (λ m place. All-cons (IsNoFailure m place) (Seen (Told (Answer n status informed bytes))) past tt (sound m place)),
    )
lines_serve rules (Told (Device label) ∷ lines) past asked owed shown fit known sound = absurd shown.0
lines_serve rules (Told (Cancel n) ∷ lines) past asked owed shown fit known sound = absurd shown.0
lines_serve rules (Told Pause ∷ lines) past asked owed shown fit known sound = absurd shown.0
lines_serve rules (Told Resume ∷ lines) past asked owed shown fit known sound = absurd shown.0
lines_serve rules (Told Remove ∷ lines) past asked owed shown fit known sound = absurd shown.0
lines_serve rules (Told Surprise ∷ lines) past asked owed shown fit known sound = absurd shown.0
lines_serve rules (Told Removed ∷ lines) past asked owed shown fit known sound = absurd shown.0

pub lines_shared : (events : List Event) → lines_of (shared_of events) ≡ lines_of events
lines_shared [] = refl
lines_shared (Effect number sector ∷ events) = lines_shared events
lines_shared (Seen line ∷ events) = ap (λ xs. line ∷ xs) (lines_shared events)
lines_shared (Fails number place ∷ events) = lines_shared events

-- WHERE EACH SYNC SUCCEEDS

same_syncs : (through : Bool) (kind : Kind) (answer : Option (List ℕ)) → (syncs through kind ≡ []) ⊎ (is_none answer ≡ false) → steady_syncs through kind answer ≡ syncs through kind
same_syncs through kind None (inl none) = sym none
same_syncs through kind None (inr some) = absurd (cc (some))
same_syncs through kind (Some bytes) h = refl

pub steady_same : (code : List ℕ → ℕ) (rules : Rules) (i : ℕ) (lines : List Line) → AllSynced lines → steady_sights_of code rules i lines ≡ sights_of code rules i lines
steady_same code rules i [] synced = refl
steady_same code rules i (Lost ∷ lines) synced = ap (λ (xs : List Sight). LostSight ∷ xs) (steady_same code rules i lines synced)
steady_same code rules i (Ended ∷ lines) synced = ap (λ (xs : List Sight). EndedSight ∷ xs) (steady_same code rules i lines synced)
steady_same code rules i (Told (Call n q) ∷ lines) synced =
    ap (λ ws. Elsewhere n ∷ (map (CallSight n) (ws ++ moves_of code rules i q (success_of n lines)) ++ steady_sights_of code rules i lines)) (same_syncs q.through q.kind (success_of n lines) synced.0)
    ∙ ap (λ (xs : List Sight). Elsewhere n ∷ (map (CallSight n) (syncs q.through q.kind ++ moves_of code rules i q (success_of n lines)) ++ xs)) (steady_same code rules i lines synced.1)
steady_same code rules i (Told (Answer n status informed bytes) ∷ lines) synced = ap (λ (xs : List Sight). end_of n status ∷ xs) (steady_same code rules i lines synced)
steady_same code rules i (Told (Device label) ∷ lines) synced = steady_same code rules i lines synced
steady_same code rules i (Told (Cancel n) ∷ lines) synced = steady_same code rules i lines synced
steady_same code rules i (Told Pause ∷ lines) synced = steady_same code rules i lines synced
steady_same code rules i (Told Resume ∷ lines) synced = steady_same code rules i lines synced
steady_same code rules i (Told Remove ∷ lines) synced = steady_same code rules i lines synced
steady_same code rules i (Told Surprise ∷ lines) synced = steady_same code rules i lines synced
steady_same code rules i (Told Removed ∷ lines) synced = steady_same code rules i lines synced
