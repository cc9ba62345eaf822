-- The tags in use, as the slots show them.
use Rattle.std.proofs.Common.{◌≡◌, ◌<◌, ◌≤◌, ℕ, zero, suc, ◌+◌, List, [], ◌∷◌, length, map, slice_set, get_or, filter, All, Option, Some, None, IsPermutation, refl, subst, arith, add-zero, zero-add, set-set}
use Rattle.std.specs.Prelude.{Any, AllPairs, Contains}
use Rattle.std.specs.List.Sorted.{IsStrictlyIncreasing}
use Rattle.std.proofs.lemmas.List.{get_or-set_same, get_or-map, length-map}
use Rattle.std.proofs.lemmas.List.Elements.{All-nil, All-cons, All-weaker}
use Rattle.std.proofs.lemmas.List.Kept.{AllPairs-cons, AllPairs-filter}
use Rattle.std.proofs.lemmas.List.Sorted.{IsPermutation-refl, IsPermutation-cons, IsPermutation-middle, IsPermutation-trans, IsPermutation-sym, Contains-permutation}
use Rattle.adapter.specs.View.{TagInUse, HasTag, HasNotTag, HaveOtherTags, IsBelow}
use Rattle.miniport.specs.declared.on_tag.OnTag.{OnTag}
use Rattle.adapter.specs.Calls.{tag_of, is_fresh_use}
use Rattle.miniport.specs.inside.Slots.{piece_at, in_use_of, tags_of}

-- a piece among the tags in use, and the others
pub taken : (size k : ℕ) (slots : List (Option OnTag)) (i : ℕ) (on : OnTag) → piece_at slots i ≡ Some on
    → IsPermutation (tags_of size k slots) (in_use_of size (k + i) on ∷ tags_of size k (slice_set slots i None))
taken size k [] zero on e = absurd cc
taken size k [] (suc i) on e = absurd cc
taken size k (None ∷ slots) zero on e = absurd cc
taken size k (Some p ∷ slots) zero on e =
    let same : p ≡ on = cc in
    rw (add-zero, same) (IsPermutation-refl (in_use_of size k on ∷ tags_of size (suc k) slots))
taken size k (None ∷ slots) (suc i) on e =
    let here : suc k + i ≡ k + suc i = omega arith in
    subst (λ (n : ℕ). IsPermutation (tags_of size (suc k) slots) (in_use_of size n on ∷ tags_of size (suc k) (slice_set slots i None))) here (taken size (suc k) slots i on e)
taken size k (Some p ∷ slots) (suc i) on e =
    let here : suc k + i ≡ k + suc i = omega arith in
    let rest = tags_of size (suc k) (slice_set slots i None) in
    let below : IsPermutation (tags_of size (suc k) slots) (in_use_of size (k + suc i) on ∷ rest) =
    subst (λ (n : ℕ). IsPermutation (tags_of size (suc k) slots) (in_use_of size n on ∷ rest)) here (taken size (suc k) slots i on e) in
    IsPermutation-trans _ _ _ (IsPermutation-cons (in_use_of size k p) _ _ below)
    (IsPermutation-middle (in_use_of size k p ∷ []) (in_use_of size (k + suc i) on) rest)

-- a slot is filled
pub filled : (size : ℕ) (slots : List (Option OnTag)) (i : ℕ) (on : OnTag) → i < length slots
    → IsPermutation (tags_of size 0 (slice_set slots i (Some on))) (in_use_of size i on ∷ tags_of size 0 (slice_set slots i None))
filled size slots i on below =
    let there : piece_at (slice_set slots i (Some on)) i ≡ Some on = get_or-set_same slots i (Some on) None below in
    let moved : IsPermutation (tags_of size 0 (slice_set slots i (Some on))) (in_use_of size (0 + i) on ∷ tags_of size 0 (slice_set (slice_set slots i (Some on)) i None)) =
    taken size 0 (slice_set slots i (Some on)) i on there in
    simp (zero-add, set-set) at moved

pub taken_first : (size : ℕ) (slots : List (Option OnTag)) (i : ℕ) (on : OnTag) → piece_at slots i ≡ Some on
    → IsPermutation (tags_of size 0 slots) (in_use_of size i on ∷ tags_of size 0 (slice_set slots i None))
taken_first size slots i on e = simp zero-add at (taken size 0 slots i on e)

-- the tags rise
abbrev pub IsFrom : ℕ → TagInUse → Type 0
IsFrom k use' = k ≤ use'.tag

abbrev pub IsBefore : TagInUse → TagInUse → Type 0
IsBefore use' other = use'.tag < other.tag

lower : (k : ℕ) (use' : TagInUse) → IsFrom (suc k) use' → IsFrom k use'
lower k use' h = omega arith

from_first : (size k : ℕ) (slots : List (Option OnTag)) → All (IsFrom k) (tags_of size k slots)
from_first size k [] = All-nil (IsFrom k)
from_first size k (None ∷ slots) = All-weaker (IsFrom (suc k)) (IsFrom k) (lower k) _ (from_first size (suc k) slots)
from_first size k (Some on ∷ slots) = All-cons (IsFrom k) _ _ (omega arith) (All-weaker (IsFrom (suc k)) (IsFrom k) (lower k) _ (from_first size (suc k) slots))

pub rising : (size k : ℕ) (slots : List (Option OnTag)) → AllPairs IsBefore (tags_of size k slots)
rising size k [] = λ i j d h below. absurd (omega (arith, below))
rising size k (None ∷ slots) = rising size (suc k) slots
rising size k (Some on ∷ slots) = AllPairs-cons IsBefore (in_use_of size k on) (tags_of size (suc k) slots) (from_first size (suc k) slots) (rising size (suc k) slots)

pub tags_differ : (size : ℕ) (slots : List (Option OnTag)) → AllPairs HaveOtherTags (tags_of size 0 slots)
tags_differ size slots i j d h below e = let k = rising size 0 slots i j d h below in absurd (omega (arith, k, e))

numbers_rise : (xs : List TagInUse) → AllPairs IsBefore xs → IsStrictlyIncreasing (map tag_of xs)
numbers_rise [] all k below = absurd (omega (arith, below))
numbers_rise (x ∷ xs) all k below =
    let long : length (map tag_of (x ∷ xs)) ≡ length (x ∷ xs) = length-map (x ∷ xs) tag_of in
    let first : get_or (map tag_of (x ∷ xs)) k 0 ≡ (get_or (x ∷ xs) k x).tag = get_or-map tag_of (x ∷ xs) k x 0 (omega (arith, below, long)) in
    let next : get_or (map tag_of (x ∷ xs)) (k + 1) 0 ≡ (get_or (x ∷ xs) (k + 1) x).tag = get_or-map tag_of (x ∷ xs) (k + 1) x 0 (omega (arith, below, long)) in
    let less = all k (k + 1) x (omega arith) (omega (arith, below, long)) in
    rw (first, next) less

pub fresh_rise : (size : ℕ) (slots : List (Option OnTag)) → IsStrictlyIncreasing (map tag_of (filter is_fresh_use (tags_of size 0 slots)))
fresh_rise size slots = numbers_rise _ (AllPairs-filter IsBefore is_fresh_use (tags_of size 0 slots) (rising size 0 slots))

-- each tag is below the number of slots
lift : (k n : ℕ) (use' : TagInUse) → IsBelow (suc k + n) use' → IsBelow (k + suc n) use'
lift k n use' h = omega (arith, h)

below_last : (size k : ℕ) (slots : List (Option OnTag)) → All (IsBelow (k + length slots)) (tags_of size k slots)
below_last size k [] = All-nil (IsBelow (k + 0))
below_last size k (None ∷ slots) = All-weaker (IsBelow (suc k + length slots)) (IsBelow (k + suc (length slots))) (lift k (length slots)) _ (below_last size (suc k) slots)
below_last size k (Some on ∷ slots) = All-cons (IsBelow (k + suc (length slots))) _ _ (omega arith)
    (All-weaker (IsBelow (suc k + length slots)) (IsBelow (k + suc (length slots))) (lift k (length slots)) _ (below_last size (suc k) slots))

pub tags_below : (size : ℕ) (slots : List (Option OnTag)) → All (IsBelow (length slots)) (tags_of size 0 slots)
tags_below size slots = simp zero-add at (below_last size 0 slots)

-- a free tag, and one in use
other : (k i : ℕ) (use' : TagInUse) → IsFrom (suc k + i) use' → HasNotTag (k + i) use'
other k i use' h e = omega (arith, h, e)

free_from : (size k : ℕ) (slots : List (Option OnTag)) (i : ℕ) → piece_at slots i ≡ None → All (HasNotTag (k + i)) (tags_of size k slots)
free_from size k [] i e = All-nil (HasNotTag (k + i))
free_from size k (Some on ∷ slots) zero e = absurd cc
free_from size k (None ∷ slots) zero e = All-weaker (IsFrom (suc k)) (HasNotTag (k + zero)) (λ u h t. omega (arith, h, t)) _ (from_first size (suc k) slots)
free_from size k (None ∷ slots) (suc i) e =
    let here : suc k + i ≡ k + suc i = omega arith in
    subst (λ (n : ℕ). All (HasNotTag n) (tags_of size (suc k) slots)) here (free_from size (suc k) slots i e)
free_from size k (Some on ∷ slots) (suc i) e =
    let here : suc k + i ≡ k + suc i = omega arith in
    All-cons (HasNotTag (k + suc i)) _ _ (λ t. absurd (omega (arith, t)))
    (subst (λ (n : ℕ). All (HasNotTag n) (tags_of size (suc k) slots)) here (free_from size (suc k) slots i e))

pub is_free : (size : ℕ) (slots : List (Option OnTag)) (i : ℕ) → piece_at slots i ≡ None → All (HasNotTag i) (tags_of size 0 slots)
is_free size slots i e = simp zero-add at (free_from size 0 slots i e)

pub is_used : (size : ℕ) (slots : List (Option OnTag)) (i : ℕ) (on : OnTag) → piece_at slots i ≡ Some on → Any (HasTag i) (tags_of size 0 slots)
is_used size slots i on e =
    let moved : IsPermutation (tags_of size 0 slots) (in_use_of size i on ∷ tags_of size 0 (slice_set slots i None)) = taken_first size slots i on e in
    let there : Contains (tags_of size 0 slots) (in_use_of size i on) =
    Contains-permutation _ _ (in_use_of size i on) (IsPermutation-sym _ _ moved) (0, omega arith, refl) in
    (there.0, in_use_of size i on, there.1, there.2, refl)
