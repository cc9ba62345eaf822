-- What is known of open requests is kept, so each label of a session's history fits.
use Rattle.std.proofs.Common.{◌≡◌, inl, inr, ℕ, ◌+◌, ◌-◌, Bool, true, false, List, [], ◌∷◌, ◌++◌, Option, None, refl, sym, ap, subst, length}
use Rattle.std.specs.Prelude.{All, is_none, if◌then◌else◌}
use Rattle.std.proofs.lemmas.List.Elements.{All-head, All-tail}
use Rattle.ntstatus.specs.declared.NtStatus.{NtStatus}
use Rattle.machine.specs.declared.Label.TheVariants.{Call, Device, Answer, Cancel, Pause, Resume, Remove, Surprise, Removed}
use Rattle.machine.specs.Rules.{Rules}
use Rattle.machine.specs.State.{State, opening}
use Rattle.machine_laws.proofs.Sound.{IsSound, IsSound-Step, IsSound-opening}
use Rattle.history_laws.specs.declared.Asked.{Asked}
use Rattle.history_laws.specs.Fitting.{refused, ends_by, fits, entry_of, without, asked_after, owed_after}
use Rattle.loss.specs.Moved.{Table, held_on}
use Rattle.loss.specs.Sessions.{Line, Told, Lost, Ended, Moment, Sessions}
use Rattle.history_loss.specs.Histories.{IsLineOfService, of_storage, seen_of}
use Rattle.history_loss_runs.specs.Laws.{all_fit_over}
use Rattle.history_loss_fits.specs.Laws.{AreAnswered, ExplainedFit, LabelsFit, labels_fit}
use Rattle.history_laws.proofs.Knowing.{Knows, knows_device, fits_call, fits_answered, knows_opening}

module _ (service : Rules) (depth max_transfer : ℕ) (window : Option ℕ) where
  abbrev rules : Rules
  rules = of_storage service depth max_transfer window

  -- a session begins anew
  anew_sound : (s s' : State) → IsSound rules s → s' ≡ opening s.arrays → IsSound rules s'
  anew_sound s s' sound anew = subst (λ x. IsSound rules x) (sym anew) (IsSound-opening rules s.arrays sound.1.whole)

  anew_known : (s s' : State) → s' ≡ opening s.arrays → Knows rules (None ∷ []) None s'
  anew_known s s' anew = subst (λ x. Knows rules (None ∷ []) None x) (sym anew) (knows_opening service depth max_transfer window false s.arrays)

  fit_lines : (lines : List Line) (asked : List (Option Asked)) (owed : Option NtStatus) (s : State) (t : Table) (m : Moment) → IsSound rules s → Knows rules asked owed s → Sessions rules (record { machine = s; table = t }) lines m
      → All IsLineOfService lines → labels_fit service asked owed (seen_of lines) ≡ true
  fit_lines [] asked owed s t m sound k run serving = refl
  fit_lines (Lost ∷ lines) asked owed s t m sound k (mid, begins, rest) serving =
      fit_lines lines (None ∷ []) None mid.machine mid.table m (anew_sound s mid.machine sound begins.machine) (anew_known s mid.machine begins.machine) rest (All-tail IsLineOfService Lost lines serving)
  fit_lines (Ended ∷ lines) asked owed s t m sound k (mid, begins, rest) serving =
      fit_lines lines (None ∷ []) None mid.machine mid.table m (anew_sound s mid.machine sound begins.machine) (anew_known s mid.machine begins.machine) rest (All-tail IsLineOfService Ended lines serving)
  fit_lines (Told (Call n q) ∷ lines) asked owed s t m sound k (mid, (inl (free, h), moves), rest) serving =
      let made : (fits service asked owed (Call n q) ≡ true) × Knows rules (asked ++ entry_of (refused service q) q ∷ []) (refused service q) mid.machine = fits_call service depth max_transfer window false asked owed s n q mid.machine sound free k h in
      rw made.0
      (fit_lines lines (asked ++ entry_of (refused service q) q ∷ []) (refused service q) mid.machine mid.table m (IsSound-Step rules s (Call n q) mid.machine sound (inl (free, h))) made.1 rest (All-tail IsLineOfService (Told (Call n q)) lines serving))
  fit_lines (Told (Call n q) ∷ lines) asked owed s t m sound k (mid, (inr none, moves), rest) serving = absurd none
  fit_lines (Told (Answer n status informed bytes) ∷ lines) asked owed s t m sound k (mid, (step, moves), rest) serving =
      let made : (ends_by asked owed n status informed (length bytes) ≡ true) × Knows rules (without asked owed n) None mid.machine = fits_answered service depth max_transfer window false asked owed s n status informed bytes mid.machine sound k step in
      rw made.0
      (fit_lines lines (without asked owed n) None mid.machine mid.table m (IsSound-Step rules s (Answer n status informed bytes) mid.machine sound step) made.1 rest (All-tail IsLineOfService (Told (Answer n status informed bytes)) lines serving))
  fit_lines (Told (Device label) ∷ lines) asked owed s t m sound k (mid, (step, moves), rest) serving =
      fit_lines lines asked owed mid.machine mid.table m (IsSound-Step rules s (Device label) mid.machine sound step) (knows_device rules asked owed s (Device label) mid.machine sound tt refl k step) rest
      (All-tail IsLineOfService (Told (Device label)) lines serving)
  fit_lines (Told (Cancel n) ∷ lines) asked owed s t m sound k (mid, (step, moves), rest) serving =
      fit_lines lines asked owed mid.machine mid.table m (IsSound-Step rules s (Cancel n) mid.machine sound step) (knows_device rules asked owed s (Cancel n) mid.machine sound tt refl k step) rest
      (All-tail IsLineOfService (Told (Cancel n)) lines serving)
  fit_lines (Told Pause ∷ lines) asked owed s t m sound k run serving = absurd (All-head IsLineOfService (Told Pause) lines serving)
  fit_lines (Told Resume ∷ lines) asked owed s t m sound k run serving = absurd (All-head IsLineOfService (Told Resume) lines serving)
  fit_lines (Told Remove ∷ lines) asked owed s t m sound k run serving = absurd (All-head IsLineOfService (Told Remove) lines serving)
  fit_lines (Told Surprise ∷ lines) asked owed s t m sound k run serving = absurd (All-head IsLineOfService (Told Surprise) lines serving)
  fit_lines (Told Removed ∷ lines) asked owed s t m sound k run serving = absurd (All-head IsLineOfService (Told Removed) lines serving)

pub labels_fit_each : LabelsFit
labels_fit_each rules disk history h =
    subst (λ lines. labels_fit rules (None ∷ []) None lines ≡ true) h.seen
    (fit_lines rules h.depth h.max_transfer h.window h.lines (None ∷ []) None (opening h.arrays) (held_on disk) h.last
    (IsSound-opening (of_storage rules h.depth h.max_transfer h.window) h.arrays h.whole) (knows_opening rules h.depth h.max_transfer h.window false h.arrays) h.sessions h.of_service)

-- WHERE REFUSED CALLS ARE ANSWERED

taken : (b rest : Bool) → (if b then rest else false) ≡ true → (b ≡ true) × (rest ≡ true)
taken true rest e = (refl, e)
taken false rest e = absurd (cc (e))

over : (rules : Rules) (lines : List Line) (asked : List (Option Asked)) (owed : Option NtStatus) → AreAnswered rules owed lines → labels_fit rules asked owed lines ≡ true → all_fit_over rules asked owed lines ≡ true
over rules [] asked owed answered fit = ap is_none answered
over rules (Lost ∷ lines) asked owed answered fit = rw answered.0 (over rules lines (None ∷ []) None answered.1 fit)
over rules (Ended ∷ lines) asked owed answered fit = rw answered.0 (over rules lines (None ∷ []) None answered.1 fit)
over rules (Told label ∷ lines) asked owed answered fit =
    let parts : (fits rules asked owed label ≡ true) × (labels_fit rules (asked_after rules asked owed label) (owed_after rules owed label) lines ≡ true) =
    taken (fits rules asked owed label) (labels_fit rules (asked_after rules asked owed label) (owed_after rules owed label) lines) fit in
    rw parts.0 (over rules lines (asked_after rules asked owed label) (owed_after rules owed label) answered parts.1)

seen_again : (lines : List Line) → seen_of (seen_of lines) ≡ seen_of lines
seen_again [] = refl
seen_again (Lost ∷ lines) = ap (λ xs. Lost ∷ xs) (seen_again lines)
seen_again (Ended ∷ lines) = ap (λ xs. Ended ∷ xs) (seen_again lines)
seen_again (Told (Call n q) ∷ lines) = ap (λ xs. Told (Call n q) ∷ xs) (seen_again lines)
seen_again (Told (Answer n status informed bytes) ∷ lines) = ap (λ xs. Told (Answer n status informed bytes) ∷ xs) (seen_again lines)
seen_again (Told (Device label) ∷ lines) = seen_again lines
seen_again (Told (Cancel n) ∷ lines) = seen_again lines
seen_again (Told Pause ∷ lines) = seen_again lines
seen_again (Told Resume ∷ lines) = seen_again lines
seen_again (Told Remove ∷ lines) = seen_again lines
seen_again (Told Surprise ∷ lines) = seen_again lines
seen_again (Told Removed ∷ lines) = seen_again lines

pub explained_fits : ExplainedFit
explained_fits rules disk history h answered calm = record {
  is_history = subst (λ lines. seen_of lines ≡ lines) h.seen (seen_again h.lines);
  fit = over rules history (None ∷ []) None answered (labels_fit_each rules disk history h);
  not_busy = calm;
}
