-- How many handles are open, as one is opened or closed.
use Rattle.volume.proofs.Common.{◌≡◌, ◌≢◌, ℕ, zero, suc, ◌+◌, List, [], ◌∷◌, Option, Some, None, refl, sym, ◌∙◌, ap, arith, cond, true, count_by, is_some, slice_index_or, sum_by-cons, ManagerView, partition_at, IsClosed, IsGiven, Handle, OpenHandle, handle_count}

abbrev Places : Type 0
Places = List (Option OpenHandle)

-- what a place counts
abbrev one_of : Option OpenHandle → ℕ
one_of place = cond (is_some place) 1 0

abbrev rest_of : Places → Places
rest_of [] = []
rest_of (place ∷ rest) = rest

rest_is : (places : Places) (k : ℕ) → slice_index_or (rest_of places) k None ≡ slice_index_or places (suc k) None
rest_is [] k = refl
rest_is (place ∷ rest) k = refl

-- the first place, and then the others
count_split : (places : Places) → count_by is_some places ≡ one_of (slice_index_or places zero None) + count_by is_some (rest_of places)
count_split [] = refl
count_split (place ∷ rest) = sum_by-cons (λ o. cond (is_some o) 1 0) place rest

count_none : (places : Places) → ((k : ℕ) → slice_index_or places k None ≡ None) → count_by is_some places ≡ 0
count_none [] none = refl
count_none (place ∷ rest) none =
    let first : one_of place ≡ 0 = ap one_of (none zero) in
    let others : count_by is_some rest ≡ 0 = count_none rest (λ k. none (suc k)) in
    let split : count_by is_some (place ∷ rest) ≡ one_of place + count_by is_some rest = sum_by-cons (λ o. cond (is_some o) 1 0) place rest in
    omega (arith, first, others, split)

count_same : (old new : Places) → ((k : ℕ) → slice_index_or new k None ≡ slice_index_or old k None) → count_by is_some new ≡ count_by is_some old
count_same [] new same = count_none new same
count_same (place ∷ rest) new same =
    let first : one_of (slice_index_or new zero None) ≡ one_of place = ap one_of (same zero) in
    let others : count_by is_some (rest_of new) ≡ count_by is_some rest = count_same rest (rest_of new) (λ k. rest_is new k ∙ same (suc k)) in
    let split : count_by is_some new ≡ one_of (slice_index_or new zero None) + count_by is_some (rest_of new) = count_split new in
    let split' : count_by is_some (place ∷ rest) ≡ one_of place + count_by is_some rest = sum_by-cons (λ o. cond (is_some o) 1 0) place rest in
    omega (arith, first, others, split, split')

-- with one place changed, the count is as much more or less
count_changed : (slot : ℕ) (old new : Places) → ((other : ℕ) → other ≢ slot → slice_index_or new other None ≡ slice_index_or old other None)
    → count_by is_some new + one_of (slice_index_or old slot None) ≡ count_by is_some old + one_of (slice_index_or new slot None)
count_changed zero old new others =
    let rests : count_by is_some (rest_of new) ≡ count_by is_some (rest_of old) =
    count_same (rest_of old) (rest_of new) (λ k. rest_is new k ∙ others (suc k) (λ e. absurd (omega (arith, e))) ∙ sym (rest_is old k)) in
    let a : count_by is_some new ≡ one_of (slice_index_or new zero None) + count_by is_some (rest_of new) = count_split new in
    let b : count_by is_some old ≡ one_of (slice_index_or old zero None) + count_by is_some (rest_of old) = count_split old in
    omega (arith, rests, a, b)
count_changed (suc slot) old new others =
    let rests : count_by is_some (rest_of new) + one_of (slice_index_or (rest_of old) slot None) ≡ count_by is_some (rest_of old) + one_of (slice_index_or (rest_of new) slot None) =
    count_changed slot (rest_of old) (rest_of new) (λ k apart. rest_is new k ∙ others (suc k) (λ e. apart (omega (arith, e))) ∙ sym (rest_is old k)) in
    let first : one_of (slice_index_or new zero None) ≡ one_of (slice_index_or old zero None) = ap one_of (others zero (λ e. absurd (omega (arith, e)))) in
    let was : one_of (slice_index_or (rest_of old) slot None) ≡ one_of (slice_index_or old (suc slot) None) = ap one_of (rest_is old slot) in
    let is : one_of (slice_index_or (rest_of new) slot None) ≡ one_of (slice_index_or new (suc slot) None) = ap one_of (rest_is new slot) in
    let a : count_by is_some new ≡ one_of (slice_index_or new zero None) + count_by is_some (rest_of new) = count_split new in
    let b : count_by is_some old ≡ one_of (slice_index_or old zero None) + count_by is_some (rest_of old) = count_split old in
    omega (arith, rests, first, was, is, a, b)

-- a handle that is given is one more
pub one_more : (old : ManagerView) (partition : ℕ) (handle : Handle) (new : ManagerView) → IsGiven old partition handle new → handle_count new ≡ handle_count old + 1
one_more old partition handle new h =
    let was : one_of (slice_index_or old.handles handle.slot None) ≡ 0 = ap one_of h.was_free in
    let is : one_of (slice_index_or new.handles handle.slot None) ≡ 1 = ap one_of h.opens.there in
    let change : count_by is_some new.handles + one_of (slice_index_or old.handles handle.slot None) ≡ count_by is_some old.handles + one_of (slice_index_or new.handles handle.slot None) =
    count_changed handle.slot old.handles new.handles h.opens.others in
    omega (arith, was, is, change)

-- a handle stands in its place while it is open
stands : (place : Option OpenHandle) (number : ℕ) → is_some (partition_at place number) ≡ true → one_of place ≡ 1
stands None number open' = absurd (cc (open'))
stands (Some handle) number open' = refl

-- and one that is closed is one fewer
pub one_fewer : (old : ManagerView) (handle : Handle) (new : ManagerView) → IsClosed old handle new → handle_count new + 1 ≡ handle_count old
one_fewer old handle new h =
    let was : one_of (slice_index_or old.handles handle.slot None) ≡ 1 = stands (slice_index_or old.handles handle.slot None) handle.number h.was_open in
    let is : one_of (slice_index_or new.handles handle.slot None) ≡ 0 = ap one_of h.closes.there in
    let change : count_by is_some new.handles + one_of (slice_index_or old.handles handle.slot None) ≡ count_by is_some old.handles + one_of (slice_index_or new.handles handle.slot None) =
    count_changed handle.slot old.handles new.handles h.closes.others in
    omega (arith, was, is, change)
