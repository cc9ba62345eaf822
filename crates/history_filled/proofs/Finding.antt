-- Bytes for the gaps of a history, from the schedules of its sectors.
use Rattle.std.proofs.Common.{◌≡◌, ◌≤◌, ◌⊎◌, inl, inr, ℕ, suc, Bool, true, false, List, [], ◌∷◌, Option, None, map, refl, sym, ap, subst, arith, length}
use Rattle.std.specs.Prelude.{All, if◌then◌else◌}
use Rattle.std.proofs.lemmas.List.Elements.{All-nil}
use Rattle.machine.specs.declared.ClientRequest.{ClientRequest}
use Rattle.machine.specs.declared.Label.{Label}
use Rattle.machine.specs.declared.Label.TheVariants.{Call, Device, Answer, Cancel, Pause, Resume, Remove, Surprise, Removed}
use Rattle.machine.specs.Rules.{Rules}
use Rattle.history_laws.specs.History.{history_of}
use Rattle.register.specs.declared.Sight.{Sight}
use Rattle.register.specs.Schedules.{HasSchedule}
use Rattle.register.specs.Values.{code}
use Rattle.history.specs.Sights.{has_sector, call_sight, with_sight, sights_of}
use Rattle.history.specs.Gaps.{all_fit_by_at_first}
use Rattle.history_laws.proofs.Mirroring.{further, newest}
use Rattle.history_shown.specs.Laws.{IsMoved, IsRecorded}
use Rattle.history_filled.specs.Laws.{AreSectors, HaveSchedules, GapsAreFilled}
use Rattle.history_filled.proofs.Decoding.{sector_of_code, sector_sized}
use Rattle.history_filled.proofs.Filling.{Content, filled_label, filled, calls_after, nothing_tracked, all_filled}
use Rattle.history_filled.proofs.Mending.{took, told, IsOfSector, has_mended, all_recorded}
use Rattle.history_filled.proofs.Showing.{shows}

-- A SECTOR SHOWS NOTHING, OR SOME CALL MOVES IT

module _ (rules : Rules) (p i : ℕ) where
  abbrev IsQuiet : List Label → Type 0
  IsQuiet labels = (sights_of code rules p i [] labels ≡ []) ⊎ IsMoved rules p i labels

  moved_later : (label : Label) (labels : List Label) → IsMoved rules p i labels → IsMoved rules p i (label ∷ labels)
  moved_later label labels m = record { number = m.number; request = m.request; called = further label labels _ m.called; moves = m.moves }

  call_quiet : (n : ℕ) (q : ClientRequest) (labels : List Label) (b : Bool) → has_sector rules p i q ≡ b → IsQuiet labels
      → (sights_of code rules p i (with_sight [] (if b then call_sight code rules i n q q.kind labels else None)) labels ≡ []) ⊎ IsMoved rules p i (Call n q ∷ labels)
  call_quiet n q labels true has rest = inr (record { number = n; request = q; called = newest (Call n q) labels; moves = has })
  call_quiet n q labels false has (inl none) = inl none
  call_quiet n q labels false has (inr m) = inr (moved_later (Call n q) labels m)

  on : (label : Label) (labels : List Label) → IsQuiet labels → (sights_of code rules p i [] labels ≡ []) ⊎ IsMoved rules p i (label ∷ labels)
  on label labels (inl none) = inl none
  on label labels (inr m) = inr (moved_later label labels m)

  quiet_or_moved : (labels : List Label) → IsQuiet labels
  quiet_or_moved [] = inl refl
  quiet_or_moved (Call n q ∷ labels) = call_quiet n q labels (has_sector rules p i q) refl (quiet_or_moved labels)
  quiet_or_moved (Answer n status informed bytes ∷ labels) = on (Answer n status informed bytes) labels (quiet_or_moved labels)
  quiet_or_moved (Device label ∷ labels) = on (Device label) labels (quiet_or_moved labels)
  quiet_or_moved (Cancel n ∷ labels) = on (Cancel n) labels (quiet_or_moved labels)
  quiet_or_moved (Pause ∷ labels) = on Pause labels (quiet_or_moved labels)
  quiet_or_moved (Resume ∷ labels) = on Resume labels (quiet_or_moved labels)
  quiet_or_moved (Remove ∷ labels) = on Remove labels (quiet_or_moved labels)
  quiet_or_moved (Surprise ∷ labels) = on Surprise labels (quiet_or_moved labels)
  quiet_or_moved (Removed ∷ labels) = on Removed labels (quiet_or_moved labels)

  -- what no call moves shows what has a schedule
  scheduled : (start : ℕ) (labels : List Label) → (IsMoved rules p i labels → HasSchedule start (sights_of code rules p i [] labels)) → HasSchedule start (sights_of code rules p i [] labels)
  scheduled start labels moved = elim (quiet_or_moved labels) [
    | inl none ↦ subst (HasSchedule start) (sym none) (record { events = []; in_turn = tt; seen = refl })
    | inr m ↦ moved m
  ]

-- CALLS AND ANSWERS

shorter : (labels : List Label) → length (history_of labels) ≤ length labels
shorter [] = omega arith
shorter (Call number q ∷ labels) = let rest = shorter labels in omega arith
shorter (Answer number status informed bytes ∷ labels) = let rest = shorter labels in omega arith
shorter (_ ∷ labels) = let rest = shorter labels in omega arith

never_seen : (label : Label) (labels : List Label) → history_of labels ≡ label ∷ labels → ⊥
never_seen label labels e = let long : length (history_of labels) ≡ suc (length labels) = ap length e in let most = shorter labels in absurd (omega arith)

still_history : (content : Content) (rules : Rules) (gaps : List Bool) (labels : List Label) (calls : List (Option ClientRequest)) → history_of labels ≡ labels
    → history_of (filled content rules calls gaps labels) ≡ filled content rules calls gaps labels
still_history content rules [] labels calls e = refl
still_history content rules (gap ∷ gaps) [] calls e = refl
still_history content rules (false ∷ gaps) (Call n q ∷ labels) calls e =
    let rest : history_of labels ≡ labels = cc (e) in ap (λ xs. Call n q ∷ xs) (still_history content rules gaps labels (calls_after calls (Call n q)) rest)
still_history content rules (true ∷ gaps) (Call n q ∷ labels) calls e =
    let rest : history_of labels ≡ labels = cc (e) in ap (λ xs. filled_label content rules calls true (Call n q) ∷ xs) (still_history content rules gaps labels (calls_after calls (Call n q)) rest)
still_history content rules (false ∷ gaps) (Answer n status informed bytes ∷ labels) calls e =
    let rest : history_of labels ≡ labels = cc (e) in ap (λ xs. Answer n status informed bytes ∷ xs) (still_history content rules gaps labels calls rest)
still_history content rules (true ∷ gaps) (Answer n status informed bytes ∷ labels) calls e =
    let rest : history_of labels ≡ labels = cc (e) in ap (λ xs. filled_label content rules calls true (Answer n status informed bytes) ∷ xs) (still_history content rules gaps labels calls rest)
still_history content rules (gap ∷ gaps) (label ∷ labels) calls e = absurd (never_seen label labels e)

-- ALL OF IT

module _ (rules : Rules) (start : ℕ → ℕ → List ℕ) (gaps : List Bool) (history : List Label) (sectors : AreSectors rules start) (fit : all_fit_by_at_first rules gaps history ≡ true)
    (schedules : HaveSchedules rules start history) where
  schedule_at : (p i : ℕ) → HasSchedule (code (start p i)) (sights_of code rules p i [] history)
  schedule_at p i = scheduled rules p i (code (start p i)) history (schedules p i)

  -- what each effect of a sector's schedule moves, as bytes
  abbrev content_of : Content
  content_of p i n = sector_of_code rules.sector_size (took n (schedule_at p i).events)

  content_sized : (p i n : ℕ) → length (content_of p i n) ≡ rules.sector_size
  content_sized p i n = sector_sized rules.sector_size (took n (schedule_at p i).events)

  abbrev whole_of : List Label
  whole_of = filled content_of rules (None ∷ []) gaps history

  abbrev told_at : ℕ → ℕ → Sight → Sight
  told_at p i x = told (λ n. code (content_of p i n)) x

  shown_at : (p i : ℕ) → (sights_of code rules p i [] whole_of ≡ map (told_at p i) (sights_of code rules p i [] history)) × All (IsOfSector rules.sector_size) (sights_of code rules p i [] history)
  shown_at p i = shows content_of rules content_sized p i gaps history (None ∷ []) (None ∷ []) None [] (nothing_tracked rules) fit (All-nil (IsOfSector rules.sector_size))

  scheduled_at : (p i : ℕ) → HasSchedule (code (start p i)) (sights_of code rules p i [] whole_of)
  scheduled_at p i =
      subst (HasSchedule (code (start p i))) (sym (shown_at p i).0)
      (has_mended rules.sector_size (start p i) (sights_of code rules p i [] history) (sectors p i) (schedule_at p i) (shown_at p i).1)

  recorded_at : (p i : ℕ) → All IsRecorded (sights_of code rules p i [] whole_of)
  recorded_at p i =
      subst (All IsRecorded) (sym (shown_at p i).0)
      (all_recorded rules.sector_size (λ n. took n (schedule_at p i).events) (sights_of code rules p i [] history) (shown_at p i).1)

pub gaps_filled : GapsAreFilled
gaps_filled rules start gaps history sectors is_history fit schedules =
    let content = content_of rules start gaps history sectors fit schedules in
    let all = all_filled content rules (content_sized rules start gaps history sectors fit schedules) gaps history (None ∷ []) (None ∷ []) None (nothing_tracked rules) fit in
    record {
      whole = whole_of rules start gaps history sectors fit schedules;
      filled = all.0;
      is_history = still_history content rules gaps history (None ∷ []) is_history;
      fit = all.1;
      scheduled = λ p i moved. scheduled_at rules start gaps history sectors fit schedules p i;
      recorded = λ p i. recorded_at rules start gaps history sectors fit schedules p i;
    }
