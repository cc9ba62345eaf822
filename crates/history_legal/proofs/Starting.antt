-- What passes from some bytes of each sector is explained from arrays of these.
use Rattle.std.proofs.Common.{◌≡◌, ◌≤◌, ◌⊎◌, inl, inr, ℕ, zero, suc, Bool, true, false, Option, Some, None, List, [], ◌∷◌, refl, sym, ◌∙◌, ap, subst, arith, length, replicate}
use Rattle.std.specs.Prelude.{Contains, slice_get}
use Rattle.std.proofs.lemmas.Option.{slice_get_past}
use Rattle.std.proofs.lemmas.List.{length-replicate}
use Rattle.std.proofs.lemmas.Bool.{cases_lt}
use Rattle.sector.specs.declared.Extent.{Extent}
use Rattle.machine.specs.declared.ClientRequest.{ClientRequest}
use Rattle.machine.specs.declared.Label.{Label}
use Rattle.machine.specs.declared.Label.TheVariants.{Call}
use Rattle.machine.specs.Rules.{Rules, sectors_of}
use Rattle.machine.specs.Sending.{array_at}
use Rattle.register.specs.Schedules.{HasSchedule}
use Rattle.register.specs.Values.{code}
use Rattle.history.specs.Sights.{has_sector, sights_of}
use Rattle.history_shown.specs.Laws.{IsMoved}
use Rattle.history_fitting.specs.declared.service.Service.{Service}
use Rattle.history_fitting.specs.declared.service.Place.{Place}
use Rattle.history_fitting.specs.Services.{rules_of}
use Rattle.history_judge.specs.Verdicts.{IsTouched, IsPassedFromSome}
use Rattle.history_legal.specs.Laws.{PassedFromSomeAreExplained}
use Rattle.history_legal.proofs.Listing.{listed, listed_length, listed_gives, listed_at, listed_past}
use Rattle.history_legal.proofs.Explaining.{Laws, filled_explained}
use Rattle.history_legal.proofs.Passing.{moved_touched}

-- WHETHER A SECTOR IS TOUCHED

abbrev Tells : Rules → Place → List Label → Type 0
Tells rules place history = IsTouched rules place history ⊎ (IsTouched rules place history → ⊥)

behind : (rules : Rules) (place : Place) (label : Label) (history : List Label) → IsTouched rules place history → IsTouched rules place (label ∷ history)
behind rules place label history h = record { number = h.number; request = h.request; called = (suc h.called.0, omega arith, h.called.2); moves = h.moves }

-- the call in front, or one behind it
first_or_later : (rules : Rules) (place : Place) (label : Label) (history : List Label) (h : IsTouched rules place (label ∷ history)) → (label ≡ Call h.number h.request) ⊎ IsTouched rules place history
first_or_later rules place label history h = by h.called
  where
    by : Contains (label ∷ history) (Call h.number h.request) → (label ≡ Call h.number h.request) ⊎ IsTouched rules place history
    by (zero, low, is) = inl is
    by (suc k, low, is) = inr (record { number = h.number; request = h.request; called = (k, omega arith, is); moves = h.moves })

none_there : (rules : Rules) (place : Place) → IsTouched rules place [] → ⊥
none_there rules place h = absurd (omega (arith, h.called.1))

-- the label is a call that moves the sector
abbrev Moves : Rules → Place → Label → Type 0
Moves rules place label = (n : ℕ) × (q : ClientRequest) × (label ≡ Call n q) × (has_sector rules place.partition place.sector q ≡ true)

call_moves : (rules : Rules) (place : Place) (n : ℕ) (q : ClientRequest) (moves : Bool) → has_sector rules place.partition place.sector q ≡ moves → Moves rules place (Call n q) ⊎ (Moves rules place (Call n q) → ⊥)
call_moves rules place n q true e = inl (n, q, refl, e)
call_moves rules place n q false e = inr (λ m.
    let same : m.1 ≡ q = cc (m.2) in
    let moved : has_sector rules place.partition place.sector q ≡ true = subst (λ r. has_sector rules place.partition place.sector r ≡ true) same m.3 in
    absurd (cc (sym moved ∙ e)))

is_one : (rules : Rules) (place : Place) (label : Label) → Moves rules place label ⊎ (Moves rules place label → ⊥)
is_one rules place (Call n q) = call_moves rules place n q (has_sector rules place.partition place.sector q) refl
is_one rules place _ = inr (λ m. absurd (cc (m.2)))

look_at : (rules : Rules) (place : Place) (label : Label) (history : List Label) → Tells rules place history → Moves rules place label ⊎ (Moves rules place label → ⊥) → Tells rules place (label ∷ history)
look_at rules place label history later (inl m) = inl (record { number = m.0; request = m.1; called = (0, omega arith, m.2); moves = m.3 })
look_at rules place label history (inl t) (inr other) = inl (behind rules place label history t)
look_at rules place label history (inr untouched) (inr other) = inr (λ h. elim (first_or_later rules place label history h) [ inl is ↦ other (h.number, h.request, is, h.moves) | inr t ↦ untouched t ])

look : (rules : Rules) (place : Place) (history : List Label) → Tells rules place history
look rules place [] = inr (none_there rules place)
look rules place (label ∷ history) = look_at rules place label history (look rules place history) (is_one rules place label)

-- THE ARRAYS

module _ (service : Service) (gaps : List Bool) (history : List Label) (passed : IsPassedFromSome service gaps history) where
  abbrev pick : (p i : ℕ) → Tells (rules_of service) (record { partition = p; sector = i }) history → List ℕ
  pick p i (inl t) = (passed.passes (record { partition = p; sector = i }) t).start
  pick p i (inr untouched) = replicate service.sector_size 0

  pick_whole : (p i : ℕ) (told : Tells (rules_of service) (record { partition = p; sector = i }) history) → length (pick p i told) ≡ service.sector_size
  pick_whole p i (inl t) = (passed.passes (record { partition = p; sector = i }) t).whole
  pick_whole p i (inr untouched) = length-replicate service.sector_size 0

  pick_scheduled : (p i : ℕ) (told : Tells (rules_of service) (record { partition = p; sector = i }) history) → IsMoved (rules_of service) p i history
      → HasSchedule (code (pick p i told)) (sights_of code (rules_of service) p i [] history)
  pick_scheduled p i (inl t) moved = (passed.passes (record { partition = p; sector = i }) t).passes
  pick_scheduled p i (inr untouched) moved = absurd (untouched (moved_touched service history p i moved))

  abbrev start_of : ℕ → ℕ → List ℕ
  start_of p i = pick p i (look (rules_of service) (record { partition = p; sector = i }) history)

  abbrev array_of : ℕ → List (List ℕ)
  array_of p = listed (start_of p) (sectors_of (rules_of service) (Some p))

  abbrev arrays_of : List (List (List ℕ))
  arrays_of = listed array_of (length service.partitions.items)

  -- the sector at a place of the arrays, if there is one
  held : (p i : ℕ) (sector : List ℕ) → slice_get (array_at arrays_of p) i ≡ Some sector → sector ≡ start_of p i
  held p i sector there = elim (cases_lt p (length service.partitions.items)) [
    | inl low ↦
        listed_gives (start_of p) (sectors_of (rules_of service) (Some p)) i sector
        (subst (λ (xs : List (List ℕ)). slice_get xs i ≡ Some sector) (listed_at array_of (length service.partitions.items) p [] low) there)
    | inr past ↦
        let none : slice_get (array_at arrays_of p) i ≡ None = ap (λ (xs : List (List ℕ)). slice_get xs i) (listed_past array_of (length service.partitions.items) p [] past) in
        absurd (cc (sym none ∙ there))
  ]

  whole : (p : ℕ) → sectors_of (rules_of service) (Some p) ≤ length (array_at arrays_of p)
  whole p = elim (cases_lt p (length service.partitions.items)) [
    | inl low ↦
        let count : length (array_at arrays_of p) ≡ sectors_of (rules_of service) (Some p) =
        ap length (listed_at array_of (length service.partitions.items) p [] low) ∙ listed_length (start_of p) (sectors_of (rules_of service) (Some p)) in
        omega (arith, count)
    | inr past ↦
        let none : slice_get service.partitions.items p ≡ None = slice_get_past service.partitions.items p past in
        let zero_there : sectors_of (rules_of service) (Some p) ≡ 0 = ap (λ (found : Option Extent). elim found [ Some extent ↦ extent.count | None ↦ 0 ]) none in
        omega (arith, zero_there)
  ]

pub passed_from_some_explained : Laws → PassedFromSomeAreExplained
passed_from_some_explained laws service gaps history room seen none_busy passed = record {
  arrays = arrays_of service gaps history passed;
  whole = whole service gaps history passed;
  sized = λ p i sector there. ap length (held service gaps history passed p i sector there) ∙ start_whole p i;
  explained = filled_explained laws (rules_of service) (start_of service gaps history passed) gaps history (arrays_of service gaps history passed) start_whole room (whole service gaps history passed)
      (held service gaps history passed) seen none_busy passed.fit
      (λ p i moved. pick_scheduled service gaps history passed p i (look (rules_of service) (record { partition = p; sector = i }) history) moved);
}
  where
    start_whole : (p i : ℕ) → length (start_of service gaps history passed p i) ≡ service.sector_size
    start_whole p i = pick_whole service gaps history passed p i (look (rules_of service) (record { partition = p; sector = i }) history)
