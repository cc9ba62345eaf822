-- What lines show of a sector, and how they fit, is so by sizes and partitions alone.
use Rattle.std.proofs.Common.{◌≡◌, ℕ, ◌+◌, ◌-◌, ◌==◌, ◌&&◌, false, not, List, [], ◌∷◌, ◌++◌, Option, Some, None, refl, ◌∙◌, ap, length, map}
use Rattle.std.specs.Prelude.{is_none, nat_le, nat_lt, if◌then◌else◌}
use Rattle.ntstatus.specs.declared.NtStatus.{NtStatus}
use Rattle.srb.specs.declared.Kind.{Kind}
use Rattle.srb.specs.declared.Kind.TheVariants.{Read, Write, Flush}
use Rattle.machine.specs.declared.ClientRequest.{ClientRequest}
use Rattle.machine.specs.declared.Label.{Label}
use Rattle.machine.specs.declared.Label.TheVariants.{Call, Device, Answer, Cancel, Pause, Resume, Remove, Surprise, Removed}
use Rattle.machine.specs.Rules.{Rules, is_transfer, is_in_bounds, first_sector, place_count, home}
use Rattle.history_laws.specs.declared.Asked.{Asked}
use Rattle.history_laws.specs.Fitting.{carried, entry_of, fits, asked_after, owed_after}
use Rattle.loss.specs.Sessions.{Line, Told, Lost, Ended}
use Rattle.loss.specs.Laws.{sector_of}
use Rattle.register_loss.specs.declared.Sight.TheVariants.{Call as CallSight, Elsewhere, Lost as LostSight, Ended as EndedSight}
use Rattle.history_loss_runs.specs.Laws.{all_fit_over}
use Rattle.history_loss_fits.specs.Laws.{labels_fit}
use Rattle.history_loss_sights.specs.Sights.{end_of, has_sector, moves, moves_of, place_of, reads, sights_of, success_of, syncs}
use Rattle.history_loss_shown.specs.Steady.{steady_sights_of, steady_syncs}
use Rattle.history_fitting.specs.declared.service.Service.{Service}
use Rattle.history_fitting.specs.Services.{rules_of, AreOf}
use Rattle.history_fitting.proofs.Sizes.{of_sizes, same_rules, same_bounds, same_refused}

-- WHAT A SECTOR SHOWS

same_home : (rules : Rules) (partition : Option ℕ) (i : ℕ) → home rules partition i ≡ home (of_sizes rules) partition i
same_home rules None i = refl
same_home rules (Some p) i = refl

same_has : (rules : Rules) (i : ℕ) (q : ClientRequest) → has_sector rules i q ≡ has_sector (of_sizes rules) i q
same_has rules i q =
    ap (λ b. (not (is_none q.partition) && (is_transfer q.kind && b)) && (nat_le (sector_of rules q 0) i && nat_lt i (sector_of rules q 0 + place_count rules q))) (same_bounds rules q)
    ∙ ap (λ n. (not (is_none q.partition) && (is_transfer q.kind && is_in_bounds (of_sizes rules) q)) && (nat_le n i && nat_lt i (n + place_count rules q))) (same_home rules q.partition (first_sector rules q + 0))

same_place : (rules : Rules) (i : ℕ) (q : ClientRequest) → place_of rules i q ≡ place_of (of_sizes rules) i q
same_place rules i q = ap (λ n. i - n) (same_home rules q.partition (first_sector rules q + 0))

same_reads : (code : List ℕ → ℕ) (rules : Rules) (place : ℕ) (answer : Option (List ℕ)) → reads code rules place answer ≡ reads code (of_sizes rules) place answer
same_reads code rules place None = refl
same_reads code rules place (Some bytes) = refl

same_moves : (code : List ℕ → ℕ) (rules : Rules) (place : ℕ) (q : ClientRequest) (answer : Option (List ℕ)) (kind : Kind) → moves code rules place q answer kind ≡ moves code (of_sizes rules) place q answer kind
same_moves code rules place q answer Read = same_reads code rules place answer
same_moves code rules place q answer Write = refl
same_moves code rules place q answer Flush = refl

same_moves_of : (code : List ℕ → ℕ) (rules : Rules) (i : ℕ) (q : ClientRequest) (answer : Option (List ℕ)) → moves_of code rules i q answer ≡ moves_of code (of_sizes rules) i q answer
same_moves_of code rules i q answer =
    ap (λ b. if b then moves code rules (place_of rules i q) q answer q.kind else []) (same_has rules i q)
    ∙ ap (λ place. if has_sector (of_sizes rules) i q then moves code rules place q answer q.kind else []) (same_place rules i q)
    ∙ ap (λ ws. if has_sector (of_sizes rules) i q then ws else []) (same_moves code rules (place_of (of_sizes rules) i q) q answer q.kind)

same_sights : (code : List ℕ → ℕ) (rules : Rules) (i : ℕ) (lines : List Line) → sights_of code rules i lines ≡ sights_of code (of_sizes rules) i lines
same_sights code rules i [] = refl
same_sights code rules i (Lost ∷ lines) = ap (λ xs. LostSight ∷ xs) (same_sights code rules i lines)
same_sights code rules i (Ended ∷ lines) = ap (λ xs. EndedSight ∷ xs) (same_sights code rules i lines)
same_sights code rules i (Told (Call n q) ∷ lines) =
    ap (λ ws. Elsewhere n ∷ (map (CallSight n) (syncs q.through q.kind ++ ws) ++ sights_of code rules i lines)) (same_moves_of code rules i q (success_of n lines))
    ∙ ap (λ xs. Elsewhere n ∷ (map (CallSight n) (syncs q.through q.kind ++ moves_of code (of_sizes rules) i q (success_of n lines)) ++ xs)) (same_sights code rules i lines)
same_sights code rules i (Told (Answer n status informed bytes) ∷ lines) = ap (λ xs. end_of n status ∷ xs) (same_sights code rules i lines)
same_sights code rules i (Told (Device label) ∷ lines) = same_sights code rules i lines
same_sights code rules i (Told (Cancel n) ∷ lines) = same_sights code rules i lines
same_sights code rules i (Told Pause ∷ lines) = same_sights code rules i lines
same_sights code rules i (Told Resume ∷ lines) = same_sights code rules i lines
same_sights code rules i (Told Remove ∷ lines) = same_sights code rules i lines
same_sights code rules i (Told Surprise ∷ lines) = same_sights code rules i lines
same_sights code rules i (Told Removed ∷ lines) = same_sights code rules i lines

pub shown_alike : (service : Service) (rules : Rules) → AreOf service rules → (code : List ℕ → ℕ) (i : ℕ) (lines : List Line) → sights_of code rules i lines ≡ sights_of code (rules_of service) i lines
shown_alike service rules of code i lines = same_sights code rules i lines ∙ ap (λ r. sights_of code r i lines) (same_rules service rules of)

same_steady : (code : List ℕ → ℕ) (rules : Rules) (i : ℕ) (lines : List Line) → steady_sights_of code rules i lines ≡ steady_sights_of code (of_sizes rules) i lines
same_steady code rules i [] = refl
same_steady code rules i (Lost ∷ lines) = ap (λ xs. LostSight ∷ xs) (same_steady code rules i lines)
same_steady code rules i (Ended ∷ lines) = ap (λ xs. EndedSight ∷ xs) (same_steady code rules i lines)
same_steady code rules i (Told (Call n q) ∷ lines) =
    ap (λ ws. Elsewhere n ∷ (map (CallSight n) (steady_syncs q.through q.kind (success_of n lines) ++ ws) ++ steady_sights_of code rules i lines)) (same_moves_of code rules i q (success_of n lines))
    ∙ ap (λ xs. Elsewhere n ∷ (map (CallSight n) (steady_syncs q.through q.kind (success_of n lines) ++ moves_of code (of_sizes rules) i q (success_of n lines)) ++ xs)) (same_steady code rules i lines)
same_steady code rules i (Told (Answer n status informed bytes) ∷ lines) = ap (λ xs. end_of n status ∷ xs) (same_steady code rules i lines)
same_steady code rules i (Told (Device label) ∷ lines) = same_steady code rules i lines
same_steady code rules i (Told (Cancel n) ∷ lines) = same_steady code rules i lines
same_steady code rules i (Told Pause ∷ lines) = same_steady code rules i lines
same_steady code rules i (Told Resume ∷ lines) = same_steady code rules i lines
same_steady code rules i (Told Remove ∷ lines) = same_steady code rules i lines
same_steady code rules i (Told Surprise ∷ lines) = same_steady code rules i lines
same_steady code rules i (Told Removed ∷ lines) = same_steady code rules i lines

pub steady_alike : (service : Service) (rules : Rules) → AreOf service rules → (code : List ℕ → ℕ) (i : ℕ) (lines : List Line) → steady_sights_of code rules i lines ≡ steady_sights_of code (rules_of service) i lines
steady_alike service rules of code i lines = same_steady code rules i lines ∙ ap (λ r. steady_sights_of code r i lines) (same_rules service rules of)

-- HOW LABELS FIT

same_fits : (rules : Rules) (asked : List (Option Asked)) (owed : Option NtStatus) (label : Label) → fits rules asked owed label ≡ fits (of_sizes rules) asked owed label
same_fits rules asked owed (Call n q) = ap (λ r. is_none owed && ((n == length asked) && (length q.bytes == carried r q))) (same_refused rules q)
same_fits rules asked owed (Answer n status informed bytes) = refl
same_fits rules asked owed (Device label) = refl
same_fits rules asked owed (Cancel n) = refl
same_fits rules asked owed Pause = refl
same_fits rules asked owed Resume = refl
same_fits rules asked owed Remove = refl
same_fits rules asked owed Surprise = refl
same_fits rules asked owed Removed = refl

same_asked : (rules : Rules) (asked : List (Option Asked)) (owed : Option NtStatus) (label : Label) → asked_after rules asked owed label ≡ asked_after (of_sizes rules) asked owed label
same_asked rules asked owed (Call n q) = ap (λ r. asked ++ entry_of r q ∷ []) (same_refused rules q)
same_asked rules asked owed (Answer n status informed bytes) = refl
same_asked rules asked owed (Device label) = refl
same_asked rules asked owed (Cancel n) = refl
same_asked rules asked owed Pause = refl
same_asked rules asked owed Resume = refl
same_asked rules asked owed Remove = refl
same_asked rules asked owed Surprise = refl
same_asked rules asked owed Removed = refl

same_owed : (rules : Rules) (owed : Option NtStatus) (label : Label) → owed_after rules owed label ≡ owed_after (of_sizes rules) owed label
same_owed rules owed (Call n q) = same_refused rules q
same_owed rules owed (Answer n status informed bytes) = refl
same_owed rules owed (Device label) = refl
same_owed rules owed (Cancel n) = refl
same_owed rules owed Pause = refl
same_owed rules owed Resume = refl
same_owed rules owed Remove = refl
same_owed rules owed Surprise = refl
same_owed rules owed Removed = refl

same_labels : (rules : Rules) (asked : List (Option Asked)) (owed : Option NtStatus) (lines : List Line) → labels_fit rules asked owed lines ≡ labels_fit (of_sizes rules) asked owed lines
same_labels rules asked owed [] = refl
same_labels rules asked owed (Lost ∷ lines) = same_labels rules (None ∷ []) None lines
same_labels rules asked owed (Ended ∷ lines) = same_labels rules (None ∷ []) None lines
same_labels rules asked owed (Told label ∷ lines) =
    ap (λ b. if b then labels_fit rules (asked_after rules asked owed label) (owed_after rules owed label) lines else false) (same_fits rules asked owed label)
    ∙ ap (λ b. if fits (of_sizes rules) asked owed label then b else false)
    (ap (λ a. labels_fit rules a (owed_after rules owed label) lines) (same_asked rules asked owed label)
    ∙ ap (λ o. labels_fit rules (asked_after (of_sizes rules) asked owed label) o lines) (same_owed rules owed label)
    ∙ same_labels rules (asked_after (of_sizes rules) asked owed label) (owed_after (of_sizes rules) owed label) lines)

pub labels_alike : (service : Service) (rules : Rules) → AreOf service rules → (lines : List Line) → labels_fit rules (None ∷ []) None lines ≡ labels_fit (rules_of service) (None ∷ []) None lines
labels_alike service rules of lines = same_labels rules (None ∷ []) None lines ∙ ap (λ r. labels_fit r (None ∷ []) None lines) (same_rules service rules of)

same_over : (rules : Rules) (asked : List (Option Asked)) (owed : Option NtStatus) (lines : List Line) → all_fit_over rules asked owed lines ≡ all_fit_over (of_sizes rules) asked owed lines
same_over rules asked owed [] = refl
same_over rules asked owed (Lost ∷ lines) = ap (λ b. if is_none owed then b else false) (same_over rules (None ∷ []) None lines)
same_over rules asked owed (Ended ∷ lines) = ap (λ b. if is_none owed then b else false) (same_over rules (None ∷ []) None lines)
same_over rules asked owed (Told label ∷ lines) =
    ap (λ b. if b then all_fit_over rules (asked_after rules asked owed label) (owed_after rules owed label) lines else false) (same_fits rules asked owed label)
    ∙ ap (λ b. if fits (of_sizes rules) asked owed label then b else false)
    (ap (λ a. all_fit_over rules a (owed_after rules owed label) lines) (same_asked rules asked owed label)
    ∙ ap (λ o. all_fit_over rules (asked_after (of_sizes rules) asked owed label) o lines) (same_owed rules owed label)
    ∙ same_over rules (asked_after (of_sizes rules) asked owed label) (owed_after (of_sizes rules) owed label) lines)

pub over_alike : (service : Service) (rules : Rules) → AreOf service rules → (lines : List Line) → all_fit_over rules (None ∷ []) None lines ≡ all_fit_over (rules_of service) (None ∷ []) None lines
over_alike service rules of lines = same_over rules (None ∷ []) None lines ∙ ap (λ r. all_fit_over r (None ∷ []) None lines) (same_rules service rules of)
