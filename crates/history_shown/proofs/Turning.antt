-- A register's schedule from its first event on, and the sights of a history that are still to come.
use Rattle.std.proofs.Common.{◌≡◌, ◌<◌, ◌≤◌, ◌⊎◌, inl, inr, ℕ, zero, suc, ◌+◌, ◌-◌, ◌==◌, ◌&&◌, ◌||◌, Bool, true, false, List, [], ◌∷◌, ◌++◌, Option, Some, None, refl, sym, ◌∙◌, ap, arith, append_assoc, append-nil}
use Rattle.std.specs.Prelude.{Contains, nat_le, nat_lt}
use Rattle.std.specs.List.{list_any}
use Rattle.std.proofs.lemmas.Bool.{and_parts, and_from, eqb-true}
use Rattle.std.proofs.lemmas.Bool.Decides.{nat_tests}
use Rattle.std.proofs.lemmas.List.Folds.{list_any-append}
use Rattle.machine.specs.declared.ClientRequest.{ClientRequest}
use Rattle.machine.specs.declared.Label.{Label}
use Rattle.machine.specs.Rules.{Rules, is_transfer, is_in_bounds, first_sector, place_count}
use Rattle.history_laws.specs.Schedules.{IsAt}
use Rattle.register.specs.declared.Sight.{Sight}
use Rattle.register.specs.Schedules as register
use Rattle.history.specs.Sights.{is_partition, has_sector, is_call_of, sight_of, with_sight, sights_of}

-- FORWARD

-- each event may come after those before it
abbrev pub Comes : ℕ → List register.Event → List register.Event → Type 0
Comes start told [] = Unit {0}
Comes start told (event ∷ events) = register.May start told event × Comes start (event ∷ told) events

abbrev pub sights_in : List register.Event → List Sight
sights_in [] = []
sights_in (register.Seen sight ∷ events) = sight ∷ sights_in events
sights_in (register.Effect number value ∷ events) = sights_in events

pub turned : (start : ℕ) (told events : List register.Event) → register.IsSchedule start told → Comes start told events
    → (all : List register.Event) × Comes start [] all × (sights_in all ≡ register.seen_of told ++ sights_in events)
turned start [] events s c = (events, c, refl)
turned start (register.Seen sight ∷ told) events s c =
    let before : (all : List register.Event) × Comes start [] all × (sights_in all ≡ register.seen_of told ++ (sight ∷ sights_in events)) = turned start told (register.Seen sight ∷ events) s.1 (s.0, c) in
    (before.0, before.1, before.2 ∙ sym (append_assoc (register.seen_of told) (sight ∷ []) (sights_in events)))
turned start (register.Effect number value ∷ told) events s c = turned start told (register.Effect number value ∷ events) s.1 (s.0, c)

-- SIGHTS TO COME

pub grows : (code : List ℕ → ℕ) (rules : Rules) (p i : ℕ) (labels : List Label) (sights : List Sight) → (more : List Sight) × (sights_of code rules p i sights labels ≡ sights ++ more)
grows code rules p i [] sights = ([], sym (append-nil sights))
grows code rules p i (label ∷ labels) sights = by_sight (sight_of code rules p i sights label labels) (λ more. grows code rules p i labels (with_sight sights more))
  where
    by_sight : (x : Option Sight) → ((y : Option Sight) → (more : List Sight) × (sights_of code rules p i (with_sight sights y) labels ≡ with_sight sights y ++ more))
        → (more : List Sight) × (sights_of code rules p i (with_sight sights x) labels ≡ sights ++ more)
    by_sight None rest = rest None
    by_sight (Some x) rest = let r = rest (Some x) in (x ∷ r.0, r.1 ∙ append_assoc sights (x ∷ []) r.0)

cancel : (xs ys zs : List Sight) → xs ++ ys ≡ xs ++ zs → ys ≡ zs
cancel [] ys zs e = e
cancel (x ∷ xs) ys zs e = cancel xs ys zs (cc (e))

-- the next sight comes next
pub comes_next : (code : List ℕ → ℕ) (rules : Rules) (p i : ℕ) (labels : List Label) (sights : List Sight) (x : Sight) (later : List Sight)
    → sights_of code rules p i (sights ++ x ∷ []) labels ≡ sights ++ later → (more : List Sight) × (later ≡ x ∷ more) × (sights_of code rules p i (sights ++ x ∷ []) labels ≡ (sights ++ x ∷ []) ++ more)
comes_next code rules p i labels sights x later e =
    let g = grows code rules p i labels (sights ++ x ∷ []) in
    (g.0, cancel sights later (x ∷ g.0) (sym e ∙ g.1 ∙ append_assoc sights (x ∷ []) g.0), g.1)

-- CALLS AMONG THE SIGHTS

pub in_front : {X : Type 0} (y : X) (xs : List X) (x : X) → Contains (y ∷ xs) x → (y ≡ x) ⊎ Contains xs x
in_front y xs x (zero, low, is) = inl is
in_front y xs x (suc k, low, is) = inr (k, omega arith, is)

pub either_true : (a b : Bool) → (a || b) ≡ true → (a ≡ true) ⊎ (b ≡ true)
either_true true b e = inl refl
either_true false b e = inr e

pub or_left : (a b : Bool) → a ≡ true → (a || b) ≡ true
or_left a b e = rw e refl

pub or_right : (a b : Bool) → b ≡ true → (a || b) ≡ true
or_right true b e = refl
or_right false b e = e

abbrev pub IsShown : ℕ → List register.Event → Type 0
IsShown n told = list_any (is_call_of n) (register.seen_of told) ≡ true

pub shown_more : (n : ℕ) (x : Sight) (told : List register.Event) → IsShown n told → IsShown n (register.Seen x ∷ told)
shown_more n x told h = list_any-append (is_call_of n) (register.seen_of told) (x ∷ []) ∙ or_left _ (is_call_of n x || false) h

pub shown_now : (n : ℕ) (x : Sight) (told : List register.Event) → is_call_of n x ≡ true → IsShown n (register.Seen x ∷ told)
shown_now n x told h = list_any-append (is_call_of n) (register.seen_of told) (x ∷ []) ∙ or_right (list_any (is_call_of n) (register.seen_of told)) _ (or_left (is_call_of n x) false h)

pub shown_before : (n : ℕ) (x : Sight) (told : List register.Event) → IsShown n (register.Seen x ∷ told) → IsShown n told ⊎ (is_call_of n x ≡ true)
shown_before n x told h = elim (either_true (list_any (is_call_of n) (register.seen_of told)) (is_call_of n x || false) (sym (list_any-append (is_call_of n) (register.seen_of told) (x ∷ [])) ∙ h)) [
  | inl before ↦ inl before
  | inr now ↦ elim (either_true (is_call_of n x) false now) [ inl here ↦ inr here | inr none ↦ absurd (cc (none)) ]
]

-- a call that is told is among the sights
pub told_shown : (n : ℕ) (x : Sight) (told : List register.Event) → is_call_of n x ≡ true → Contains told (register.Seen x) → IsShown n told
told_shown n x [] is (k, low, e) = absurd (omega arith)
told_shown n x (register.Effect m v ∷ told) is there = elim (in_front (register.Effect m v) told (register.Seen x) there) [
  | inl e ↦ absurd (cc (e))
  | inr before ↦ told_shown n x told is before
]
told_shown n x (register.Seen y ∷ told) is there = elim (in_front (register.Seen y) told (register.Seen x) there) [
  | inl e ↦ let same : y ≡ x = cc (e) in shown_now n y told (ap (is_call_of n) same ∙ is)
  | inr before ↦ shown_more n y told (told_shown n x told is before)
]

-- A SECTOR'S PLACE

equal_is : (a b : ℕ) → a ≡ b → (a == b) ≡ true
equal_is a b e = grind (arith, nat_tests)

partition_is : (p : ℕ) (partition : Option ℕ) → partition ≡ Some p → is_partition p partition ≡ true
partition_is p None e = absurd (cc (e))
partition_is p (Some other) e = equal_is other p (cc (e))

is_partition_of : (p : ℕ) (partition : Option ℕ) → is_partition p partition ≡ true → partition ≡ Some p
is_partition_of p None e = absurd (cc (e))
is_partition_of p (Some other) e = ap Some (eqb-true other p e)

from_le : (a b : ℕ) → a ≤ b → nat_le a b ≡ true
from_le a b h = grind (arith, nat_tests)

from_lt : (a b : ℕ) → a < b → nat_lt a b ≡ true
from_lt a b h = grind (arith, nat_tests)

to_le : (a b : ℕ) → nat_le a b ≡ true → a ≤ b
to_le a b h = grind (arith, nat_tests)

to_lt : (a b : ℕ) → nat_lt a b ≡ true → a < b
to_lt a b h = grind (arith, nat_tests)

module _ (rules : Rules) (p i : ℕ) (q : ClientRequest) where
  pub place_is : (place : ℕ) → IsAt rules p i q place → i - first_sector rules q ≡ place
  place_is place at = let is : first_sector rules q + place ≡ i = at.sector in omega arith

  pub at_has : (place : ℕ) → IsAt rules p i q place → has_sector rules p i q ≡ true
  at_has place at =
      let is : first_sector rules q + place ≡ i = at.sector in
      let inside : place < place_count rules q = at.inside in
      and_from (is_partition p q.partition && (is_transfer q.kind && is_in_bounds rules q)) _
      (and_from (is_partition p q.partition) _ (partition_is p q.partition at.partition) (and_from (is_transfer q.kind) _ at.transfer at.in_bounds))
      (and_from (nat_le (first_sector rules q) i) _ (from_le (first_sector rules q) i (omega arith)) (from_lt i (first_sector rules q + place_count rules q) (omega arith)))

  pub has_at : has_sector rules p i q ≡ true → IsAt rules p i q (i - first_sector rules q)
  has_at e =
      let both = and_parts (is_partition p q.partition && (is_transfer q.kind && is_in_bounds rules q)) (nat_le (first_sector rules q) i && nat_lt i (first_sector rules q + place_count rules q)) e in
      let kind = and_parts (is_partition p q.partition) (is_transfer q.kind && is_in_bounds rules q) both.0 in
      let of_kind = and_parts (is_transfer q.kind) (is_in_bounds rules q) kind.1 in
      let place = and_parts (nat_le (first_sector rules q) i) (nat_lt i (first_sector rules q + place_count rules q)) both.1 in
      let low : first_sector rules q ≤ i = to_le (first_sector rules q) i place.0 in
      let high : i < first_sector rules q + place_count rules q = to_lt i (first_sector rules q + place_count rules q) place.1 in
      record { partition = is_partition_of p q.partition kind.0; transfer = of_kind.0; in_bounds = of_kind.1; sector = omega arith; inside = omega arith }
