-- A history of which each sector that calls move has a schedule is explained.
use Rattle.std.proofs.Common.{◌≡◌, ℕ, Bool, true, false, List, [], ◌∷◌, Some, None, refl, sym, subst, arith}
use Rattle.std.specs.Prelude.{All, slice_get, if◌then◌else◌}
use Rattle.std.proofs.lemmas.List.Elements.{All-nil}
use Rattle.machine.specs.declared.Label.{Label}
use Rattle.machine.specs.declared.Label.TheVariants.{Call, Device, Answer, Cancel, Pause, Resume, Remove, Surprise, Removed}
use Rattle.machine.specs.Rules.{Rules}
use Rattle.machine.specs.Sending.{array_at}
use Rattle.history_laws.specs.Schedules.{IsScheduled}
use Rattle.history_laws.specs.Fitting.{all_fit_at_first}
use Rattle.history_laws.proofs.Mirroring.{further, newest}
use Rattle.history_runs.proofs.Explaining.{scheduled_explained}
use Rattle.register.specs.Schedules.{HasSchedule}
use Rattle.history.specs.Sights.{has_sector, call_sight, with_sight, sights_of}
use Rattle.history_shown.specs.Laws.{IsReadBelow, IsRecorded, IsMoved, MovedAreExplained}
use Rattle.history_shown.proofs.Scheduling.{shown_scheduled}

module _ (rules : Rules) (p i : ℕ) where
  -- whether some call moves the sector
  is_moved : List Label → Bool
  is_moved [] = false
  is_moved (Call n q ∷ labels) = if has_sector rules p i q then true else is_moved labels
  is_moved (_ ∷ labels) = is_moved labels

  later : (label : Label) (labels : List Label) → IsMoved rules p i labels → IsMoved rules p i (label ∷ labels)
  later label labels h = record { number = h.number; request = h.request; called = further label labels _ h.called; moves = h.moves }

  moved : (labels : List Label) → is_moved labels ≡ true → IsMoved rules p i labels
  unfolding is_moved
  moved [] e = cc (e)
  moved (Call n q ∷ labels) e = by_sector (has_sector rules p i q) refl e (moved labels)
    where
      by_sector : (b : Bool) → has_sector rules p i q ≡ b → (if b then true else is_moved labels) ≡ true → (is_moved labels ≡ true → IsMoved rules p i labels) → IsMoved rules p i (Call n q ∷ labels)
      by_sector true has e' rest = record { number = n; request = q; called = newest (Call n q) labels; moves = has }
      by_sector false has e' rest = later (Call n q) labels (rest e')
  moved (Device label ∷ labels) e = later (Device label) labels (moved labels e)
  moved (Answer n status informed bytes ∷ labels) e = later (Answer n status informed bytes) labels (moved labels e)
  moved (Cancel n ∷ labels) e = later (Cancel n) labels (moved labels e)
  moved (Pause ∷ labels) e = later Pause labels (moved labels e)
  moved (Resume ∷ labels) e = later Resume labels (moved labels e)
  moved (Remove ∷ labels) e = later Remove labels (moved labels e)
  moved (Surprise ∷ labels) e = later Surprise labels (moved labels e)
  moved (Removed ∷ labels) e = later Removed labels (moved labels e)

  -- a sector that no call moves shows nothing
  shows_nothing : (code : List ℕ → ℕ) (labels : List Label) → is_moved labels ≡ false → sights_of code rules p i [] labels ≡ []
  unfolding is_moved
  shows_nothing code [] e = refl
  shows_nothing code (Call n q ∷ labels) e = by_sector (has_sector rules p i q) refl e (shows_nothing code labels)
    where
      by_sector : (b : Bool) → has_sector rules p i q ≡ b → (if b then true else is_moved labels) ≡ false → (is_moved labels ≡ false → sights_of code rules p i [] labels ≡ [])
          → sights_of code rules p i (with_sight [] (if b then call_sight code rules i n q q.kind labels else None)) labels ≡ []
      by_sector true has e' rest = cc (e')
      by_sector false has e' rest = rest e'
  shows_nothing code (Device label ∷ labels) e = shows_nothing code labels e
  shows_nothing code (Answer n status informed bytes ∷ labels) e = shows_nothing code labels e
  shows_nothing code (Cancel n ∷ labels) e = shows_nothing code labels e
  shows_nothing code (Pause ∷ labels) e = shows_nothing code labels e
  shows_nothing code (Resume ∷ labels) e = shows_nothing code labels e
  shows_nothing code (Remove ∷ labels) e = shows_nothing code labels e
  shows_nothing code (Surprise ∷ labels) e = shows_nothing code labels e
  shows_nothing code (Removed ∷ labels) e = shows_nothing code labels e

  none : List ℕ → ℕ
  none bytes = 0

  unmoved_scheduled : (start : List ℕ) (history : List Label) → all_fit_at_first rules history ≡ true → is_moved history ≡ false → IsScheduled rules p i start history
  unmoved_scheduled start history fit still =
      let silent : sights_of none rules p i [] history ≡ [] = shows_nothing none history still in
      shown_scheduled none 0 rules p i start history (λ a b low e. absurd (omega arith)) fit (subst (All (IsReadBelow 0)) (sym silent) (All-nil (IsReadBelow 0))) (subst (All IsRecorded) (sym silent) (All-nil IsRecorded))
      (subst (HasSchedule (none start)) (sym silent) (record { events = []; in_turn = tt; seen = refl }))

pub moved_explained : MovedAreExplained
moved_explained rules arrays history room whole seen fit none_busy schedules =
    scheduled_explained rules arrays history room whole seen fit (λ p i start there. by_moved p i start there (is_moved rules p i history) refl) (λ n q busy. absurd (none_busy n q busy))
  where
    by_moved : (p i : ℕ) (start : List ℕ) → slice_get (array_at arrays p) i ≡ Some start → (b : Bool) → is_moved rules p i history ≡ b → IsScheduled rules p i start history
    by_moved p i start there true e = schedules p i start there (moved rules p i history e)
    by_moved p i start there false e = unmoved_scheduled rules p i start history fit e
