-- What changes keep of a sector.
use Rattle.std.proofs.Common.{◌≡◌, ◌<◌, ◌≤◌, ◌⊎◌, inl, inr, ℕ, suc, Bool, true, false, cond, List, [], ◌∷◌, ◌++◌, refl, sym, subst, arith, map}
use Rattle.std.specs.Prelude.{nat_lt}
use Rattle.std.specs.List.{filter}
use Rattle.std.proofs.lemmas.Bool.Decides.{leb_tells}
use Rattle.loss.specs.Held.{Change, Puts, Secures, Tries, Syncs, Doubts, Held, IsOneOf, OlderOf, changed, left, outlives, overwritten, value_of}
use Rattle.loss.specs.Laws.{Brings, BringsSurely, GivesOnly, LeavesOnly}

-- LISTS

pub one_of_either : (value : List ℕ) (xs ys : List (List ℕ)) → IsOneOf value (xs ++ ys) → IsOneOf value xs ⊎ IsOneOf value ys
one_of_either value [] ys p = inr p
one_of_either value (x ∷ xs) ys (inl e) = inl (inl e)
one_of_either value (x ∷ xs) ys (inr p) = elim (one_of_either value xs ys p) [ inl q ↦ inl (inr q) | inr q ↦ inr q ]

pub one_of_first : (value : List ℕ) (xs ys : List (List ℕ)) → IsOneOf value xs → IsOneOf value (xs ++ ys)
one_of_first value [] ys p = absurd p
one_of_first value (x ∷ xs) ys (inl e) = inl e
one_of_first value (x ∷ xs) ys (inr p) = inr (one_of_first value xs ys p)

one_of_second : (value : List ℕ) (xs ys : List (List ℕ)) → IsOneOf value ys → IsOneOf value (xs ++ ys)
one_of_second value [] ys p = p
one_of_second value (x ∷ xs) ys p = inr (one_of_second value xs ys p)

of_overwritten : (value : List ℕ) (next : ℕ) (xs : List (List ℕ)) → IsOneOf value (map value_of (map (overwritten next) xs)) → IsOneOf value xs
of_overwritten value next [] p = p
of_overwritten value next (x ∷ xs) (inl e) = inl e
of_overwritten value next (x ∷ xs) (inr p) = inr (of_overwritten value next xs p)

of_put : (value : List ℕ) (next : ℕ) (os : List (OlderOf (List ℕ))) (xs : List (List ℕ)) → IsOneOf value (map value_of (os ++ map (overwritten next) xs)) → IsOneOf value (xs ++ map value_of os)
of_put value next os xs p = elim (parts os p) [ inl q ↦ one_of_first value xs (map value_of os) q | inr q ↦ one_of_second value xs (map value_of os) q ]
  where
    parts : (os : List (OlderOf (List ℕ))) → IsOneOf value (map value_of (os ++ map (overwritten next) xs)) → IsOneOf value xs ⊎ IsOneOf value (map value_of os)
    parts [] p = inl (of_overwritten value next xs p)
    parts (o ∷ os) (inl e) = inr (inl e)
    parts (o ∷ os) (inr p) = elim (parts os p) [ inl q ↦ inl q | inr q ↦ inr (inr q) ]

kept : (value : List ℕ) (flush : ℕ) (os : List (OlderOf (List ℕ))) → IsOneOf value (map value_of (filter (outlives flush) os)) → IsOneOf value (map value_of os)
kept value flush [] p = p
kept value flush (o ∷ os) p = by_age (nat_lt flush o.behind) (λ q. kept value flush os q) p
  where
    by_age : (b : Bool) → (IsOneOf value (map value_of (filter (outlives flush) os)) → IsOneOf value (map value_of os))
        → IsOneOf value (map value_of (cond b (o ∷ filter (outlives flush) os) (filter (outlives flush) os))) → IsOneOf value (o.value ∷ map value_of os)
    by_age false rest q = inr (rest q)
    by_age true rest (inl e) = inl e
    by_age true rest (inr q) = inr (rest q)

-- WHAT A CHANGE KEEPS

pub keeps_gives : (Such : List ℕ → Type 0) (next : ℕ) (c : Change) (h : Held) → BringsSurely Such c → GivesOnly Such h → GivesOnly Such (changed next c h)
keeps_gives Such next (Puts v) h brings all value (inl e) = subst Such (sym e) brings
keeps_gives Such next (Puts v) h brings all value (inr never) = absurd never
keeps_gives Such next (Secures v) h brings all value (inl e) = subst Such (sym e) brings
keeps_gives Such next (Secures v) h brings all value (inr never) = absurd never
keeps_gives Such next (Tries v) h brings all value p = elim (one_of_either value h.now (v ∷ []) p) [ inl q ↦ all value q | inr (inl e) ↦ subst Such (sym e) brings | inr (inr never) ↦ absurd never ]
keeps_gives Such next (Syncs number) h brings all value p = all value p
keeps_gives Such next Doubts h brings all value p = absurd brings

pub keeps_leaves : (Such : List ℕ → Type 0) (next : ℕ) (c : Change) (h : Held) → Brings Such c → LeavesOnly Such h → LeavesOnly Such (changed next c h)
keeps_leaves Such next (Puts v) h brings all value (inl e) = subst Such (sym e) brings
keeps_leaves Such next (Puts v) h brings all value (inr p) = all value (of_put value next h.older h.now p)
keeps_leaves Such next (Secures v) h brings all value (inl e) = subst Such (sym e) brings
keeps_leaves Such next (Secures v) h brings all value (inr never) = absurd never
keeps_leaves Such next (Tries v) h brings all value p =
    elim (one_of_either value (h.now ++ v ∷ []) (map value_of h.older) p) [
      | inl q ↦ keeps_now q
      | inr q ↦ all value (one_of_second value h.now (map value_of h.older) q)
    ]
  where
    keeps_now : IsOneOf value (h.now ++ v ∷ []) → Such value
    keeps_now q = elim (one_of_either value h.now (v ∷ []) q) [
      | inl r ↦ all value (one_of_first value h.now (map value_of h.older) r)
      | inr (inl e) ↦ subst Such (sym e) brings
      | inr (inr never) ↦ absurd never
    ]
keeps_leaves Such next (Syncs number) h brings all value p =
    elim (one_of_either value h.now (map value_of (filter (outlives number) h.older)) p) [
      | inl q ↦ all value (one_of_first value h.now (map value_of h.older) q)
      | inr q ↦ all value (one_of_second value h.now (map value_of h.older) (kept value number h.older q))
    ]
keeps_leaves Such next Doubts h brings all value p = elim (one_of_either value (left h) [] p) [ inl q ↦ all value q | inr never ↦ absurd never ]

-- each is such a value, or was overwritten before the piece of this number started
abbrev pub AllDue : (List ℕ → Type 0) → ℕ → List (OlderOf (List ℕ)) → Type 0
AllDue Such number [] = Unit {0}
AllDue Such number (o ∷ os) = (Such o.value ⊎ (o.behind ≤ number)) × AllDue Such number os

now_due : (Such : List ℕ → Type 0) (number next : ℕ) (xs : List (List ℕ)) → ((value : List ℕ) → IsOneOf value xs → Such value) → AllDue Such number (map (overwritten next) xs)
now_due Such number next [] all = tt
now_due Such number next (x ∷ xs) all = (inl (all x (inl refl)), now_due Such number next xs (λ value p. all value (inr p)))

put_due : (Such : List ℕ → Type 0) (number next : ℕ) (os : List (OlderOf (List ℕ))) (xs : List (List ℕ)) → ((value : List ℕ) → IsOneOf value xs → Such value) → AllDue Such number os
    → AllDue Such number (os ++ map (overwritten next) xs)
put_due Such number next [] xs all due = now_due Such number next xs all
put_due Such number next (o ∷ os) xs all due = (due.0, put_due Such number next os xs all due.1)

kept_due : (Such : List ℕ → Type 0) (number flush : ℕ) (os : List (OlderOf (List ℕ))) → AllDue Such number os → AllDue Such number (filter (outlives flush) os)
kept_due Such number flush [] due = tt
kept_due Such number flush (o ∷ os) due = by_age (nat_lt flush o.behind) (kept_due Such number flush os due.1)
  where
    by_age : (b : Bool) → AllDue Such number (filter (outlives flush) os) → AllDue Such number (cond b (o ∷ filter (outlives flush) os) (filter (outlives flush) os))
    by_age false rest = rest
    by_age true rest = (due.0, rest)

-- reads give such values alone, and the flush of this number ends all others
pub record IsDue (Such : List ℕ → Type 0) (number : ℕ) (h : Held) : Type 0 where
  pub gives : GivesOnly Such h
  pub older : AllDue Such number h.older

pub keeps_due : (Such : List ℕ → Type 0) (number next : ℕ) (c : Change) (h : Held) → BringsSurely Such c → IsDue Such number h → IsDue Such number (changed next c h)
keeps_due Such number next (Puts v) h brings due = record { gives = keeps_gives Such next (Puts v) h brings due.gives; older = put_due Such number next h.older h.now due.gives due.older }
keeps_due Such number next (Secures v) h brings due = record { gives = keeps_gives Such next (Secures v) h brings due.gives; older = tt }
keeps_due Such number next (Tries v) h brings due = record { gives = keeps_gives Such next (Tries v) h brings due.gives; older = due.older }
keeps_due Such number next (Syncs other) h brings due = record { gives = due.gives; older = kept_due Such number other h.older due.older }
keeps_due Such number next Doubts h brings due = absurd brings

-- the flush ends them
synced_older : (Such : List ℕ → Type 0) (number flush : ℕ) (os : List (OlderOf (List ℕ))) → number ≤ flush → AllDue Such number os → (value : List ℕ) → IsOneOf value (map value_of (filter (outlives flush) os)) → Such value
synced_older Such number flush [] low due value p = absurd p
synced_older Such number flush (o ∷ os) low due value p = by_age (leb_tells (suc flush) o.behind) (λ q. synced_older Such number flush os low due.1 value q)
  where
    such : flush < o.behind → Such o.value ⊎ (o.behind ≤ number) → Such o.value
    such late (inl s) = s
    such late (inr early) = absurd (omega (arith, late, early, low))

    of_rest : flush < o.behind → (IsOneOf value (map value_of (filter (outlives flush) os)) → Such value) → IsOneOf value (o.value ∷ map value_of (filter (outlives flush) os)) → Such value
    of_rest late rest (inl e) = subst Such (sym e) (such late due.0)
    of_rest late rest (inr q) = rest q

    of : (b : Bool) → nat_lt flush o.behind ≡ b → IsOneOf value (map value_of (cond b (o ∷ filter (outlives flush) os) (filter (outlives flush) os)))
    of b e = subst (λ (b : Bool). IsOneOf value (map value_of (cond b (o ∷ filter (outlives flush) os) (filter (outlives flush) os)))) e p

    by_age : ((nat_lt flush o.behind ≡ true) × (suc flush ≤ o.behind)) ⊎ ((nat_lt flush o.behind ≡ false) × (o.behind < suc flush)) → (IsOneOf value (map value_of (filter (outlives flush) os)) → Such value) → Such value
    by_age (inl late) rest = of_rest (omega (arith, late.1)) rest (of true late.0)
    by_age (inr early) rest = rest (of false early.0)

pub synced_leaves : (Such : List ℕ → Type 0) (number next flush : ℕ) (h : Held) → number ≤ flush → IsDue Such number h → LeavesOnly Such (changed next (Syncs flush) h)
synced_leaves Such number next flush h low due value p =
    elim (one_of_either value h.now (map value_of (filter (outlives flush) h.older)) p) [ inl q ↦ due.gives value q | inr q ↦ synced_older Such number flush h.older low due.older value q ]

-- what is older was overwritten before this piece starts
abbrev pub AllBefore : ℕ → List (OlderOf (List ℕ)) → Type 0
AllBefore next [] = Unit {0}
AllBefore next (o ∷ os) = (o.behind ≤ next) × AllBefore next os

now_before : (next : ℕ) (xs : List (List ℕ)) → AllBefore next (map (overwritten next) xs)
now_before next [] = tt
now_before next (x ∷ xs) = (omega arith, now_before next xs)

put_before : (next : ℕ) (os : List (OlderOf (List ℕ))) (xs : List (List ℕ)) → AllBefore next os → AllBefore next (os ++ map (overwritten next) xs)
put_before next [] xs before = now_before next xs
put_before next (o ∷ os) xs before = (before.0, put_before next os xs before.1)

kept_before : (next flush : ℕ) (os : List (OlderOf (List ℕ))) → AllBefore next os → AllBefore next (filter (outlives flush) os)
kept_before next flush [] before = tt
kept_before next flush (o ∷ os) before = by_age (nat_lt flush o.behind) (kept_before next flush os before.1)
  where
    by_age : (b : Bool) → AllBefore next (filter (outlives flush) os) → AllBefore next (cond b (o ∷ filter (outlives flush) os) (filter (outlives flush) os))
    by_age false rest = rest
    by_age true rest = (before.0, rest)

pub keeps_before : (next : ℕ) (c : Change) (h : Held) → AllBefore next h.older → AllBefore next (changed next c h).older
keeps_before next (Puts v) h before = put_before next h.older h.now before
keeps_before next (Secures v) h before = tt
keeps_before next (Tries v) h before = before
keeps_before next (Syncs number) h before = kept_before next number h.older before
keeps_before next Doubts h before = tt

pub later_before : (next more : ℕ) (os : List (OlderOf (List ℕ))) → next ≤ more → AllBefore next os → AllBefore more os
later_before next more [] low before = tt
later_before next more (o ∷ os) low before = (omega (arith, low, before.0), later_before next more os low before.1)

pub due_of_before : (Such : List ℕ → Type 0) (next : ℕ) (os : List (OlderOf (List ℕ))) → AllBefore next os → AllDue Such next os
due_of_before Such next [] before = tt
due_of_before Such next (o ∷ os) before = (inr before.0, due_of_before Such next os before.1)
