-- Numbered entries that stand at their numbers are the first ones.
use Rattle.std.proofs.Common.{◌≡◌, ℕ, suc, ◌+◌, List, [], ◌∷◌, ◌++◌, length, Some, slice_get, refl, sym, ap, subst, ◌∙◌, arith, length-append}
use Rattle.std.proofs.lemmas.List.{map_push, append_assoc}
use Rattle.book.proofs.Common.{AllStand, Entered, BeginsWith, entries_claimed, numbered_from}

-- the entry behind these
abbrev Behind : {A : Type 0} → List A → A → List A → Type 0
Behind left x rest = left ≡ x ∷ rest

next_is : {A : Type 0} (before left : List A) (x : A) → slice_get (before ++ left) (length before) ≡ Some x → (rest : List A) × Behind left x rest
next_is [] [] x there = absurd (cc (there))
next_is [] (y ∷ left) x there = let same : y ≡ x = cc in (left, ap (λ z. z ∷ left) same)
next_is (b ∷ before) left x there = next_is before left x there

all_stand : {A : Type 0} (xs before left : List A) (number : ℕ) → number ≡ length before → AllStand (before ++ left) (numbered_from number xs) → (rest : List A) × (left ≡ xs ++ rest)
all_stand [] before left number is stand = (left, refl)
all_stand {A} (x ∷ xs) before left number is stand =
    let next : (rest : List A) × Behind left x rest = next_is before left x (subst (λ n. slice_get (before ++ left) n ≡ Some x) is stand.0) in
    let moved : before ++ left ≡ (before ++ x ∷ []) ++ next.0 = ap (λ l. before ++ l) next.1 ∙ sym (append_assoc before (x ∷ []) next.0) in
    let more : suc number ≡ length (before ++ x ∷ []) = let l : length (before ++ x ∷ []) ≡ length before + 1 = length-append before (x ∷ []) in omega (arith, l, is) in
    let rest : (r : List A) × (next.0 ≡ xs ++ r) = all_stand xs (before ++ x ∷ []) next.0 (suc number) more (subst (λ (l : List A). AllStand l (numbered_from (suc number) xs)) moved stand.1) in
    (rest.0, next.1 ∙ ap (λ l. x ∷ l) rest.1)

pub begins : (all first : List Entered) (claims : List (ℕ × Entered)) → claims ≡ numbered_from 0 first → AllStand all claims → BeginsWith all first
begins all first claims are stand =
    let all_of : (rest : List Entered) × (all ≡ first ++ rest) = all_stand first [] all 0 refl (subst (λ (c : List (ℕ × Entered)). AllStand all c) are stand) in
    record { rest = all_of.0; is = all_of.1 }

numbered_push : {A : Type 0} (xs : List A) (x : A) (number : ℕ) → numbered_from number (xs ++ x ∷ []) ≡ numbered_from number xs ++ (number + length xs, x) ∷ []
numbered_push [] x number = let e : number ≡ number + 0 = omega arith in ap (λ n. (n, x) ∷ []) e
numbered_push (y ∷ xs) x number =
    let e : suc number + length xs ≡ number + suc (length xs) = omega arith in
    ap (λ l. (number, y) ∷ l) (numbered_push xs x (suc number) ∙ ap (λ n. numbered_from (suc number) xs ++ (n, x) ∷ []) e)

module _ (old receipt new : List (ℕ × Entered)) (number : ℕ) (entry : Entered) where
  entries_more : receipt ≡ (number, entry) ∷ [] → new ≡ old ++ receipt → entries_claimed new ≡ entries_claimed old ++ entry ∷ []
  entries_more is longer = ap entries_claimed (longer ∙ ap (λ l. old ++ l) is) ∙ map_push (λ (c : ℕ × Entered). c.1) old (number, entry)

  -- one more receipt, of the next number
  pub one_more : old ≡ numbered_from 0 (entries_claimed old) → number ≡ length (entries_claimed old) → receipt ≡ (number, entry) ∷ [] → new ≡ old ++ receipt → new ≡ numbered_from 0 (entries_claimed new)
  one_more are count is longer =
      let last : number ≡ 0 + length (entries_claimed old) = omega (arith, count) in
      longer
      ∙ ap (λ l. old ++ l) is
      ∙ ap (λ l. l ++ (number, entry) ∷ []) are
      ∙ ap (λ n. numbered_from 0 (entries_claimed old) ++ (n, entry) ∷ []) last
      ∙ sym (numbered_push (entries_claimed old) entry 0)
      ∙ ap (numbered_from 0) (sym (entries_more is longer))

  pub counted_more : number ≡ length (entries_claimed old) → receipt ≡ (number, entry) ∷ [] → new ≡ old ++ receipt → number + 1 ≡ length (entries_claimed new)
  counted_more count is longer =
      let more : length (entries_claimed new) ≡ length (entries_claimed old) + 1 = ap length (entries_more is longer) ∙ length-append (entries_claimed old) (entry ∷ []) in
      omega (arith, count, more)
