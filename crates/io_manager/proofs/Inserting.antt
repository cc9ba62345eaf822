-- Answers put in their place by number.
use Rattle.std.proofs.Common.{◌≡◌, ◌<◌, ◌≤◌, ℕ, zero, suc, ◌+◌, ◌-◌, true, false, List, [], ◌∷◌, ◌++◌, take, drop, Option, Some, None, refl, sym, ◌∙◌, ap, arith, map, length, get_or, nat_lt}
use Rattle.std.specs.Prelude.{IsPermutation, ◌==◌, ◌||◌, if◌then◌else◌}
use Rattle.io_manager.proofs.Common.{list_any, drop-append_seam, take-append_seam, nat_tests, drop_all, length-drop, length-map, take_all, or-true, list_any-IsPermutation, Holder, inserted, lower_first, is_answer_of, unless_answered, answer_number, AreRising}
use Rattle.std.proofs.Math.ListN.{get_or-map}
use Rattle.io_manager.specs.declared.Answer.{Answer}

pub lower_first_within : (number : ℕ) (answers : List Answer) → lower_first number answers ≤ length answers
lower_first_within number [] = omega arith
lower_first_within number (first ∷ rest) =
    let below : lower_first number rest ≤ length rest = lower_first_within number rest in
    elim (nat_lt first.number number) as (λ b. (if b then suc (lower_first number rest) else 0) ≤ length (first ∷ rest)) [ true ↦ omega arith | false ↦ omega arith ]

-- between the first answers with lower numbers and the rest
between : (answer : Answer) (answers : List Answer) → take (lower_first answer.number answers) answers ++ answer ∷ drop (lower_first answer.number answers) answers ≡ inserted answer answers
between answer [] = refl
between answer (first ∷ rest) =
    elim (nat_lt first.number answer.number) as (λ b. take (if b then suc (lower_first answer.number rest) else 0) (first ∷ rest) ++ answer ∷ drop (if b then suc (lower_first answer.number rest) else 0) (first ∷ rest)
    ≡ (if b then first ∷ inserted answer rest else answer ∷ first ∷ rest)) [
      | true ↦ ap (λ xs. first ∷ xs) (between answer rest)
      | false ↦ refl
    ]

-- the rest to the front, the answer before it, and the first ones back
pub turned_in : (answer : Answer) (answers : List Answer) (place : ℕ) (turned longer last : List Answer) (count : ℕ) → place ≡ lower_first answer.number answers → count ≡ length answers + 1
    → turned ≡ drop place answers ++ take place answers → longer ≡ answer ∷ turned → last ≡ drop (count - place) longer ++ take (count - place) longer → last ≡ inserted answer answers
turned_in answer answers place turned longer last count at counted first second third =
    let within : lower_first answer.number answers ≤ length answers = lower_first_within answer.number answers in
    let front : List Answer = answer ∷ drop place answers in
    let left : length (drop place answers) ≡ length answers - place = length-drop place answers in
    let long : count - place ≡ length front = omega arith in
    let parts : longer ≡ front ++ take place answers = second ∙ ap (λ xs. answer ∷ xs) first in
    third
    ∙ ap (λ xs. drop (count - place) xs ++ take (count - place) xs) parts
    ∙ ap (λ n. drop n (front ++ take place answers) ++ take n (front ++ take place answers)) long
    ∙ ap (λ xs. xs ++ take (length front) (front ++ take place answers)) (drop-append_seam front (take place answers))
    ∙ ap (λ xs. take place answers ++ xs) (take-append_seam front (take place answers))
    ∙ ap (λ n. take n answers ++ answer ∷ drop n answers) at
    ∙ between answer answers

-- behind all, where all have lower numbers
pub put_last : (answer : Answer) (answers : List Answer) (place : ℕ) (longer : List Answer) → place ≡ lower_first answer.number answers → place ≡ length answers
    → longer ≡ answers ++ answer ∷ [] → longer ≡ inserted answer answers
put_last answer answers place longer at all last =
    last
    ∙ ap (λ xs. answers ++ answer ∷ xs) (sym (drop_all place answers (omega (arith, all))))
    ∙ ap (λ xs. xs ++ answer ∷ drop place answers) (sym (take_all place answers (omega (arith, all))))
    ∙ ap (λ n. take n answers ++ answer ∷ drop n answers) at
    ∙ between answer answers

-- one more answer takes its holder away
pub unless_one_more : (answer : Answer) (answers more : List Answer) (slot : Option Holder) → IsPermutation more (answer ∷ answers)
    → unless_answered more slot ≡ unless_answered (answer ∷ []) (unless_answered answers slot)
unless_one_more answer answers more None p = refl
unless_one_more answer answers more (Some holder) p =
    ap (λ b. if b then None else Some holder) (list_any-IsPermutation (is_answer_of holder) more (answer ∷ answers) p)
    ∙ elim (list_any (is_answer_of holder) answers) as (λ b. (if (answer.number == holder.number) || b then None else Some holder) ≡ unless_answered (answer ∷ []) (if b then None else Some holder)) [
      | true ↦ ap (λ b. if b then None else Some holder) (or-true (answer.number == holder.number))
      | false ↦ refl
    ]

-- none from here on has a lower number
pub not_lower : (number : ℕ) (answers : List Answer) (k : ℕ) (answer : Answer) → k < length answers → get_or answers k answer ≡ answer → number ≤ answer.number → lower_first number answers ≤ k
not_lower number [] k answer within there high = omega arith
not_lower number (first ∷ rest) zero answer within there high =
    let e : first.number ≡ answer.number = ap (λ (x : Answer). x.number) there in
    let test : nat_lt first.number number ≡ false = grind (arith, nat_tests) in
    rw test (omega arith)
not_lower number (first ∷ rest) (suc k) answer within there high =
    let below : lower_first number rest ≤ k = not_lower number rest k answer (omega arith) there high in
    elim (nat_lt first.number number) as (λ b. (if b then suc (lower_first number rest) else 0) ≤ suc k) [ true ↦ omega arith | false ↦ omega arith ]

-- all up to here have lower numbers
pub all_lower : (number : ℕ) (answers : List Answer) (k : ℕ) (answer : Answer) → AreRising (map answer_number answers) → k < length answers → get_or answers k answer ≡ answer → answer.number < number → k + 1 ≤ lower_first number answers
all_lower number [] k answer rising within there low = omega arith
all_lower number (first ∷ rest) zero answer rising within there low =
    let e : first.number ≡ answer.number = ap (λ (x : Answer). x.number) there in
    let test : nat_lt first.number number ≡ true = grind (arith, nat_tests) in
    rw test (omega arith)
all_lower number (first ∷ rest) (suc k) answer rising within there low =
    let inside : k < length rest = omega arith in
    let before : k + 1 ≤ lower_first number rest = all_lower number rest k answer rising.1 inside there low in
    let is : get_or (map answer_number rest) k (answer_number answer) ≡ answer.number = get_or-map answer_number rest k answer ∙ ap answer_number there in
    let above : first.number < get_or (map answer_number rest) k (answer_number answer) = rising.0 k (answer_number answer) (rw (length-map rest answer_number) inside) in
    let lower : first.number < number = omega (arith, is, above, low) in
    let test : nat_lt first.number number ≡ true = grind (arith, nat_tests) in
    rw test (omega arith)
