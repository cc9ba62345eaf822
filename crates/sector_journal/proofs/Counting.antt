-- How many pieces may act.
use Rattle.sector_journal.proofs.Common.{◌≡◌, ◌≤◌, ◌<◌, ℕ, zero, suc, ◌+◌, ◌*◌, List, [], ◌∷◌, length, Option, Some, None, get_or, slice_set, All, ap, arith, Fits, w64, sum_by-set, sum_by-le, All-nil, All-cons, Armed, armed_at, armed_count, one_if_armed, IsFree}

one_at_most : (slot : Option Armed) → one_if_armed slot ≤ 1
one_at_most (Some armed) = omega arith
one_at_most None = omega arith

each_at_most : (slots : List (Option Armed)) → All (λ slot. one_if_armed slot ≤ 1) slots
each_at_most [] = All-nil (λ slot. one_if_armed slot ≤ 1)
each_at_most (slot ∷ slots) = All-cons (λ slot. one_if_armed slot ≤ 1) slot slots (one_at_most slot) (each_at_most slots)

-- no more than there are tags
pub few_armed : (slots : List (Option Armed)) → armed_count slots ≤ length slots
few_armed slots = let h : armed_count slots ≤ length slots * 1 = sum_by-le one_if_armed 1 slots (each_at_most slots) in omega (arith, h)

pub one_more_fits : (slots : List (Option Armed)) (armed n : ℕ) → armed ≡ armed_count slots → n ≡ length slots → n ≤ 255 → Fits w64 (armed + 1)
one_more_fits slots armed n is long few = let h : armed_count slots ≤ length slots = few_armed slots in omega (arith, h, is, long, few)

-- one more on a free tag
pub put_count : (slots : List (Option Armed)) (tag : ℕ) (armed : Armed) → IsFree slots tag → armed_count (slice_set slots tag (Some armed)) ≡ armed_count slots + 1
put_count slots tag armed free =
    let h : armed_count (slice_set slots tag (Some armed)) + one_if_armed (get_or slots tag None) ≡ armed_count slots + 1 = sum_by-set one_if_armed slots tag (Some armed) None free.0 in
    let none : one_if_armed (get_or slots tag None) ≡ 0 = ap one_if_armed free.1 in
    omega (arith, h, none)

-- one less where a piece was
pub clear_count : (slots : List (Option Armed)) (tag : ℕ) (armed : Armed) → tag < length slots → armed_at slots tag ≡ Some armed → armed_count (slice_set slots tag None) + 1 ≡ armed_count slots
clear_count slots tag armed low there =
    let h : armed_count (slice_set slots tag None) + one_if_armed (get_or slots tag None) ≡ armed_count slots + 0 = sum_by-set one_if_armed slots tag None None low in
    let one : one_if_armed (get_or slots tag None) ≡ 1 = ap one_if_armed there in
    omega (arith, h, one)

-- the same where none was
pub same_count : (slots : List (Option Armed)) (tag : ℕ) → tag < length slots → armed_at slots tag ≡ None → armed_count (slice_set slots tag None) ≡ armed_count slots
same_count slots tag low none =
    let h : armed_count (slice_set slots tag None) + one_if_armed (get_or slots tag None) ≡ armed_count slots + 0 = sum_by-set one_if_armed slots tag None None low in
    let zero_there : one_if_armed (get_or slots tag None) ≡ 0 = ap one_if_armed none in
    omega (arith, h, zero_there)

pub within_slots : (slots : List (Option Armed)) (tag : ℕ) (armed : Armed) → armed_at slots tag ≡ Some armed → tag < length slots
within_slots [] tag armed h = absurd (cc (h))
within_slots (slot ∷ slots) zero armed h = omega arith
within_slots (slot ∷ slots) (suc tag) armed h = let low : tag < length slots = within_slots slots tag armed h in omega (arith, low)
