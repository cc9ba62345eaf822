-- A history whose sectors show what has schedules is explained, with some bytes in its gaps.
use Rattle.std.proofs.Common.{◌≡◌, ◌≤◌, ℕ, ◌+◌, Bool, true, List, [], ◌∷◌, Some, sym, subst, arith}
use Rattle.std.specs.Prelude.{All, slice_get}
use Rattle.std.proofs.lemmas.List.Elements.{All-nil, All-cons, All-weaker}
use Rattle.machine.specs.declared.ClientRequest.{ClientRequest}
use Rattle.machine.specs.declared.Label.{Label}
use Rattle.machine.specs.Rules.{Rules}
use Rattle.machine.specs.Sending.{array_at}
use Rattle.machine_laws.specs.Reached.{AreWhole}
use Rattle.history_laws.specs.History.{history_of}
use Rattle.history_laws.specs.Schedules.{IsScheduled}
use Rattle.history_runs.specs.Laws.{IsAddressable, IsBusyWrite}
use Rattle.register.specs.declared.Sight.{Sight}
use Rattle.register.specs.declared.Sight.TheVariants.{Write, Read, Done, Failed}
use Rattle.register.specs.Values.{code, CodesTell}
use Rattle.history.specs.Sights.{sights_of}
use Rattle.history.specs.Gaps.{IsExplainedBySome, all_fit_by_at_first}
use Rattle.history_shown.specs.Laws.{IsReadBelow, ShownAreScheduled, MovedAreExplained}
use Rattle.history_filled.specs.Laws.{AreSectors, HaveSchedules, IsFilledUp, GapsAreFilled}
use Rattle.history_legal.proofs.Busy.{none_busy}

-- VALUES BELOW A NUMBER

read_higher : (low high : ℕ) → low ≤ high → (x : Sight) → IsReadBelow low x → IsReadBelow high x
read_higher low high more (Read n value) h = omega arith
read_higher low high more (Write n value) h = tt
read_higher low high more (Done n) h = tt
read_higher low high more (Failed n) h = tt

some_above : (count : ℕ) (x : Sight) → (high : ℕ) × (count ≤ high) × IsReadBelow high x
some_above count (Read n value) = (count + value + 1, omega arith, omega arith)
some_above count (Write n value) = (count, omega arith, tt)
some_above count (Done n) = (count, omega arith, tt)
some_above count (Failed n) = (count, omega arith, tt)

bounded : (sights : List Sight) → (count : ℕ) × All (IsReadBelow count) sights
bounded [] = (0, All-nil (IsReadBelow 0))
bounded (x ∷ sights) =
    let rest : (count : ℕ) × All (IsReadBelow count) sights = bounded sights in
    let next = some_above rest.0 x in
    (next.0, All-cons (IsReadBelow next.0) x sights next.2 (All-weaker (IsReadBelow rest.0) (IsReadBelow next.0) (read_higher rest.0 next.0 next.1) sights rest.1))

-- ITS RUN

-- the laws that it stands on
pub record Laws : Type 0 where
  pub codes_tell : CodesTell
  pub gaps_filled : GapsAreFilled
  pub shown_scheduled : ShownAreScheduled
  pub moved_explained : MovedAreExplained

pub filled_explained : Laws → (rules : Rules) (start : ℕ → ℕ → List ℕ) (gaps : List Bool) (history : List Label) (arrays : List (List (List ℕ))) → AreSectors rules start
    → IsAddressable rules → AreWhole rules arrays → ((p i : ℕ) (sector : List ℕ) → slice_get (array_at arrays p) i ≡ Some sector → sector ≡ start p i)
    → history_of history ≡ history → ((n : ℕ) (q : ClientRequest) → IsBusyWrite history n q → ⊥) → all_fit_by_at_first rules gaps history ≡ true → HaveSchedules rules start history
    → IsExplainedBySome rules arrays gaps history
filled_explained laws rules start gaps history arrays sectors room whole held seen none fit schedules = record {
  whole = up.whole;
  filled = up.filled;
  explained = laws.moved_explained rules arrays up.whole room whole up.is_history up.fit (none_busy gaps history up.whole up.filled none)
      (λ p i sector there moved. subst (λ s. IsScheduled rules p i s up.whole) (sym (held p i sector there))
      (laws.shown_scheduled code (bounded (sights_of code rules p i [] up.whole)).0 rules p i (start p i) up.whole (λ a b low. laws.codes_tell a b) up.fit
      (bounded (sights_of code rules p i [] up.whole)).1 (up.recorded p i) (up.scheduled p i moved)));
}
  where
    up : IsFilledUp rules start gaps history
    up = laws.gaps_filled rules start gaps history sectors seen fit schedules
