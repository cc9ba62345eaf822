-- What the rule says of the worker and a lane.
use Rattle.std.proofs.Common.{◌≡◌, ℕ, zero, suc, ◌<◌, ◌==◌, List, [], ◌∷◌, ◌++◌, length, length-append, slice_get, Some, sym, refl, ap, ◌∙◌, ◌⊎◌, inl, inr, ⊎_elim, arith}
use Rattle.std.proofs.lemmas.List.Elements.{filter-append}
use mathlib.Core.Option.{some, some-injective}
use mathlib.Core.Logic.{dite}
use native.Mathlib.Decide.{dec_le}
use lib.ListN.{get_elem?}
use Rattle.lanes.specs.declared.rule.Item.{Item}
use Rattle.lanes.specs.declared.rule.View.{View}
use Rattle.lanes.specs.Queue.{QueueKept, item_of, numbered, part}
use Rattle.lanes.specs.Laws.{InOrder, TakenIsPut}

split_part : (t : ℕ) (xs ys : List Item) → part t (xs ++ ys) ≡ part t xs ++ part t ys
split_part t xs ys = filter-append (λ y. y.tag == t) xs ys

pub taken_is_put : TakenIsPut
taken_is_put items views worker lane t r first at =
    sym (split_part t worker.taken items) ∙ (ap (λ (u : View). part t (u.taken ++ items)) (some-injective worker r.worker (sym first ∙ r.first)) ∙ r.put t lane at)

some_there : {A : Type 0} (l : List A) (i : ℕ) → i < length l → (a : A) × (get_elem? l i ≡ some a)
some_there [] i h = absurd (omega arith)
some_there (x ∷ xs) zero h = (x, refl)
some_there (x ∷ xs) (suc i) h = some_there xs i (omega arith)

-- the part of any tag has rising counts
part_counted : (items : List Item) (views : List View) (t : ℕ) → (r : QueueKept items views) → (m : ℕ) × (part t (r.worker.taken ++ items) ≡ numbered t m)
part_counted items views t r = dite (dec_le r.worker.lanes t)
    (λ past. (0, r.none t past))
    (λ below. let there = some_there views (suc t) (omega (arith, r.lanes)) in (length there.0.put, r.put t there.0 there.1 ∙ r.counted t there.0 there.1))

get_longer : (xs ys : List Item) (n : ℕ) (x : Item) → slice_get xs n ≡ Some x → slice_get (xs ++ ys) n ≡ Some x
get_longer [] ys n x e = absurd (let no : ⊥ = cc (e) in no)
get_longer (y ∷ xs) ys zero x e = e
get_longer (y ∷ xs) ys (suc n) x e = get_longer xs ys n x e

get_snoc : (xs : List Item) (y : Item) (n : ℕ) (x : Item) → slice_get (xs ++ y ∷ []) n ≡ Some x → (slice_get xs n ≡ Some x) ⊎ ((n ≡ length xs) × (y ≡ x))
get_snoc [] y zero x e = let is : y ≡ x = cc (e) in inr (refl, is)
get_snoc [] y (suc n) x e = inl e
get_snoc (z ∷ xs) y zero x e = inl e
get_snoc (z ∷ xs) y (suc n) x e = ⊎_elim (λ h. inl h) (λ h. inr (ap suc h.0, h.1)) (get_snoc xs y n x e)

length_numbered : (t m : ℕ) → length (numbered t m) ≡ m
length_numbered t zero = refl
length_numbered t (suc m) = length-append (numbered t m) (item_of t m ∷ []) ∙ omega (arith, length_numbered t m)

get_numbered : (t m n : ℕ) (x : Item) → slice_get (numbered t m) n ≡ Some x → x ≡ item_of t n
get_numbered t zero n x e = absurd (let no : ⊥ = cc (e) in no)
get_numbered t (suc m) n x e = ⊎_elim (λ h. get_numbered t m n x h)
    (λ h. sym h.1 ∙ ap (item_of t) (sym (length_numbered t m) ∙ sym h.0))
    (get_snoc (numbered t m) (item_of t m) n x e)

pub in_order : InOrder
in_order items views worker t n x r first at =
    let all = part_counted items views t r in
    let is : worker ≡ r.worker = some-injective worker r.worker (sym first ∙ r.first) in
    let parted : part t worker.taken ++ part t items ≡ numbered t all.0 = sym (split_part t worker.taken items) ∙ (ap (λ (u : View). part t (u.taken ++ items)) is ∙ all.1) in
    get_numbered t all.0 n x (sym (ap (λ l. slice_get l n) parted) ∙ get_longer (part t worker.taken) (part t items) n x at)
