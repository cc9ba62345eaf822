-- Taking one item out of a list, by its number or by choice.
use Rattle.std.proofs.Common.{◌≡◌, ◌<◌, ◌⊎◌, inl, inr, ℕ, zero, suc, Bool, true, false, List, [], ◌∷◌, ◌++◌, Option, Some, None, refl, sym, ◌∙◌, ap, subst, arith, map, length, get_or, cond, eqb, eq-eqb}
use Rattle.std.specs.Prelude.{IsPermutation, All, Contains, IfSome, option_to_list, if◌then◌else◌}
use Rattle.std.specs.List.{IsDistinct, AllByRecursion, find, list_any, position_or_len, remove, flat_map}
use Rattle.std.proofs.lemmas.Bool.{both_ways, eqb-true, or_parts}
use Rattle.std.proofs.lemmas.List.{length-map, get_or-map}
use Rattle.std.proofs.lemmas.List.Sorted.{IsPermutation-refl, IsPermutation-sym, IsPermutation-trans, IsPermutation-cons, IsPermutation-middle, IsPermutation-to_front, IsPermutation-insert, IsPermutation-remove, All-permutation, Contains-permutation}
use Rattle.std.proofs.lemmas.List.Elements.{All-nil, All-cons, All-head}
use Rattle.machine.proofs.Permuting.{IsPermutation-uncons, first_unique}
use Rattle.machine.specs.State.{OpenRequest}
use Rattle.judge.specs.Next.{comes_after, placed}
use Rattle.judge.specs.Picking.{behind, take_out, past, choices}

-- the value that is there passes; none is there never
abbrev pub Gives : {X : Type 0} → (X → Type 0) → Option X → Type 0
Gives P None = ⊥
Gives P (Some x) = P x

-- an item that is there, before the others in some order
pub first_of : {X : Type 0} (xs : List X) (x : X) → Contains xs x → (others : List X) × IsPermutation xs (x ∷ others)
first_of xs x (k, low, is) = (remove xs k, IsPermutation-remove xs k x low (sym is))

-- an item at the end of others, and in its place among them
pub to_front : {X : Type 0} (xs : List X) (x : X) → IsPermutation (xs ++ x ∷ []) (x ∷ xs)
to_front xs x = IsPermutation-to_front xs x

pub unplaced : (o : OpenRequest) (others : List OpenRequest) → IsPermutation (placed o others) (o ∷ others)
unplaced o others = IsPermutation-sym _ _ (IsPermutation-insert others (position_or_len (comes_after o.number) others) o)

-- WHAT IS FOUND BY A TEST

module _ {X : Type 0} (test : X → Bool) where
  pub found_pass : (xs : List X) (x : X) → find test xs ≡ Some x → Contains xs x × (test x ≡ true)
  found_pass [] x e = cc (e)
  found_pass (y ∷ ys) x e = by (test y) refl e (found_pass ys x)
    where
      by : (b : Bool) → test y ≡ b → cond b (Some y) (find test ys) ≡ Some x → (find test ys ≡ Some x → Contains ys x × (test x ≡ true)) → Contains (y ∷ ys) x × (test x ≡ true)
      by true t e again = let same : y ≡ x = cc (e) in ((0, omega arith, same), ap test (sym same) ∙ t)
      by false t e again = let more : Contains ys x × (test x ≡ true) = again e in ((suc more.0.0, omega (arith, more.0.1), more.0.2), more.1)

  pub found_fail : (xs : List X) → find test xs ≡ None → (x : X) → Contains xs x → test x ≡ false
  found_fail [] e x (k, low, is) = absurd (omega arith)
  found_fail (y ∷ ys) e x c = by (test y) refl e c (λ f. found_fail ys f x)
    where
      by : (b : Bool) → test y ≡ b → cond b (Some y) (find test ys) ≡ None → Contains (y ∷ ys) x → (find test ys ≡ None → Contains ys x → test x ≡ false) → test x ≡ false
      by true t e c again = cc (e)
      by false t e (zero, low, is) again = ap test (sym is) ∙ t
      by false t e (suc k, low, is) again = again e (k, omega arith, is)

  pub none_any : (xs : List X) → list_any test xs ≡ false → (x : X) → Contains xs x → test x ≡ false
  none_any [] e x (k, low, is) = absurd (omega arith)
  none_any (y ∷ ys) e x (zero, low, is) = ap test (sym is) ∙ (or_parts (test y) (list_any test ys) e).0
  none_any (y ∷ ys) e x (suc k, low, is) = none_any ys (or_parts (test y) (list_any test ys) e).1 x (k, omega arith, is)

-- THE FIRST ITEM THAT PASSES

abbrev TakesOut : {X : Type 0} → (X → Bool) → List X → Option (X × List X) → Type 0
TakesOut test xs None = All (λ x. test x ≡ false) xs
TakesOut test xs (Some p) = IsPermutation xs (p.0 ∷ p.1) × (test p.0 ≡ true)

module _ {X : Type 0} (test : X → Bool) where
  takes_out : (xs : List X) → TakesOut test xs (take_out test xs)
  takes_out [] = All-nil (λ x. test x ≡ false)
  takes_out (x ∷ xs) = first (test x) refl (take_out test xs) (takes_out xs)
    where
      first : (b : Bool) → test x ≡ b → (o : Option (X × List X)) → TakesOut test xs o → TakesOut test (x ∷ xs) (if b then Some (x, xs) else behind x o)
      first true e o h = (IsPermutation-refl (x ∷ xs), e)
      first false e None h = All-cons (λ x. test x ≡ false) x xs e h
      first false e (Some (y, ys)) h = (IsPermutation-trans _ _ _ (IsPermutation-cons x _ _ h.0) (IsPermutation-middle (x ∷ []) y ys), h.1)

module _ {X : Type 0} (key : X → ℕ) (n : ℕ) where
  -- the one item of this number is taken out, whatever the others' order
  pub at_taken : (P : Option (X × List X) → Type 0) (xs : List X) (x : X) (others : List X) → IsDistinct eqb (map key xs) → IsPermutation xs (x ∷ others) → key x ≡ n
      → ((rest : List X) → IsPermutation others rest → P (Some (x, rest))) → P (take_out (λ y. eqb (key y) n) xs)
  at_taken P xs x others distinct p e h = by (take_out (λ y. eqb (key y) n) xs) (takes_out (λ y. eqb (key y) n) xs)
    where
      by : (o : Option (X × List X)) → TakesOut (λ y. eqb (key y) n) xs o → P o
      by None none =
          let not_it : eqb (key x) n ≡ false = All-head (λ y. eqb (key y) n ≡ false) x others (All-permutation (λ y. eqb (key y) n ≡ false) _ _ p none) in
          absurd (both_ways _ not_it (eq-eqb (key x) n e))
      by (Some (y, rest)) some =
          let same_number : key y ≡ key x = eqb-true (key y) n some.1 ∙ sym e in
          let same : (x ≡ y) × IsPermutation others rest = first_unique key xs x y others rest distinct p some.0 same_number in
          subst (λ z. P (Some (z, rest))) same.0 (h rest same.1)

  -- the one item of this number is found
  pub at_one : (P : Option X → Type 0) (xs : List X) (x : X) → IsDistinct eqb (map key xs) → Contains xs x → key x ≡ n → P (Some x) → P (find (λ y. eqb (key y) n) xs)
  at_one P xs x distinct there e h = by (find (λ y. eqb (key y) n) xs) refl
    where
      by : (o : Option X) → find (λ y. eqb (key y) n) xs ≡ o → P o
      by None none = absurd (both_ways _ (found_fail (λ y. eqb (key y) n) xs none x there) (eq-eqb (key x) n e))
      by (Some y) found =
          let c : Contains xs y × (eqb (key y) n ≡ true) = found_pass (λ y. eqb (key y) n) xs y found in
          let same_number : key y ≡ key x = eqb-true (key y) n c.1 ∙ sym e in
          let p : (others : List X) × IsPermutation xs (x ∷ others) = first_of xs x there in
          let q : (others : List X) × IsPermutation xs (y ∷ others) = first_of xs y c.0 in
          subst (λ z. P (Some z)) (first_unique key xs x y p.0 q.0 distinct p.1 q.1 same_number).0 h

-- EACH ITEM WITH THE OTHERS

module _ {X : Type 0} where
  pub length-choices : (xs : List X) → length (choices xs) ≡ length xs
  length-choices [] = refl
  length-choices (x ∷ xs) = ap suc (length-map (choices xs) (past x) ∙ length-choices xs)

  -- the choice at a place
  pub choices_at : (xs : List X) (k : ℕ) (d : X) (e : X × List X) → k < length xs → get_or (choices xs) k e ≡ (get_or xs k d, remove xs k)
  choices_at [] k d e low = absurd (omega arith)
  choices_at (x ∷ xs) zero d e low = refl
  choices_at (x ∷ xs) (suc k) d e low =
      let less : k < length xs = omega arith in
      let short : k < length (choices xs) = rw length-choices less in
      get_or-map (past x) (choices xs) k e e short ∙ ap (past x) (choices_at xs k d e less)

  -- each choice is of the list
  pub choices_are : (xs : List X) → AllByRecursion (λ (c : X × List X). IsPermutation xs (c.0 ∷ c.1)) (choices xs)
  choices_are [] = tt
  choices_are (x ∷ xs) = (IsPermutation-refl (x ∷ xs), more (choices xs) (choices_are xs))
    where
      more : (cs : List (X × List X)) → AllByRecursion (λ (c : X × List X). IsPermutation xs (c.0 ∷ c.1)) cs → AllByRecursion (λ (c : X × List X). IsPermutation (x ∷ xs) (c.0 ∷ c.1)) (map (past x) cs)
      more [] h = tt
      more (c ∷ cs) h = (IsPermutation-trans _ _ _ (IsPermutation-cons x _ _ h.0) (IsPermutation-middle (x ∷ []) c.0 c.1), more cs h.1)

-- SOME ITEM PASSES, BY RECURSION

abbrev pub Among : {X : Type 0} → (X → Type 0) → List X → Type 0
Among P [] = ⊥
Among P (x ∷ xs) = P x ⊎ Among P xs

module _ {X : Type 0} where
  pub among_append_left : (P : X → Type 0) (xs ys : List X) → Among P xs → Among P (xs ++ ys)
  among_append_left P [] ys h = absurd h
  among_append_left P (x ∷ xs) ys (inl h) = inl h
  among_append_left P (x ∷ xs) ys (inr h) = inr (among_append_left P xs ys h)

  pub among_append_right : (P : X → Type 0) (xs ys : List X) → Among P ys → Among P (xs ++ ys)
  among_append_right P [] ys h = h
  among_append_right P (x ∷ xs) ys h = inr (among_append_right P xs ys h)

  pub all_append : (P : X → Type 0) (xs ys : List X) → AllByRecursion P xs → AllByRecursion P ys → AllByRecursion P (xs ++ ys)
  all_append P [] ys h k = k
  all_append P (x ∷ xs) ys h k = (h.0, all_append P xs ys h.1 k)

  pub all_option : (P : X → Type 0) (o : Option X) → IfSome o P → AllByRecursion P (option_to_list o)
  all_option P None h = tt
  all_option P (Some x) h = (h, tt)

  pub among_option : (P : X → Type 0) (o : Option X) → Gives P o → Among P (option_to_list o)
  among_option P None h = absurd h
  among_option P (Some x) h = inl h

  -- what holds of each item holds of the one that passes
  pub among_both : (P Q R : X → Type 0) → ((x : X) → P x → Q x → R x) → (xs : List X) → AllByRecursion P xs → Among Q xs → Among R xs
  among_both P Q R f [] h k = k
  among_both P Q R f (x ∷ xs) h (inl k) = inl (f x h.0 k)
  among_both P Q R f (x ∷ xs) h (inr k) = inr (among_both P Q R f xs h.1 k)

module _ {X Y : Type 0} (f : X → List Y) where
  pub all_flat_map : (P : X → Type 0) (Q : Y → Type 0) → ((x : X) → P x → AllByRecursion Q (f x)) → (xs : List X) → AllByRecursion P xs → AllByRecursion Q (flat_map f xs)
  all_flat_map P Q h [] k = tt
  all_flat_map P Q h (x ∷ xs) k = all_append Q (f x) (flat_map f xs) (h x k.0) (all_flat_map P Q h xs k.1)

  pub among_flat_map : (P : X → Type 0) (Q : Y → Type 0) → ((x : X) → P x → Among Q (f x)) → (xs : List X) → Among P xs → Among Q (flat_map f xs)
  among_flat_map P Q h [] k = k
  among_flat_map P Q h (x ∷ xs) (inl k) = among_append_left Q (f x) (flat_map f xs) (h x k)
  among_flat_map P Q h (x ∷ xs) (inr k) = among_append_right Q (f x) (flat_map f xs) (among_flat_map P Q h xs k)

module _ {X : Type 0} where
  -- an item that is there is among the choices, with the others in some order
  pub chosen : (xs : List X) (x : X) (others : List X) → IsPermutation xs (x ∷ others) → Among (λ (c : X × List X). (c.0 ≡ x) × IsPermutation others c.1) (choices xs)
  chosen xs x others p =
      among_both (λ c. IsPermutation xs (c.0 ∷ c.1)) (λ c. c.0 ≡ x) (λ c. (c.0 ≡ x) × IsPermutation others c.1) with_others (choices xs) (choices_are xs)
      (there xs (Contains-permutation _ _ x (IsPermutation-sym _ _ p) (0, omega arith, refl)))
    where
      with_others : (c : X × List X) → IsPermutation xs (c.0 ∷ c.1) → c.0 ≡ x → (c.0 ≡ x) × IsPermutation others c.1
      with_others c q e =
          let both : IsPermutation (x ∷ others) (c.0 ∷ c.1) = IsPermutation-trans _ _ _ (IsPermutation-sym _ _ p) q in
          (e, IsPermutation-uncons x others c.1 (subst (λ z. IsPermutation (x ∷ others) (z ∷ c.1)) e both))

      passed : (y : X) (cs : List (X × List X)) → Among (λ (c : X × List X). c.0 ≡ x) cs → Among (λ (c : X × List X). c.0 ≡ x) (map (past y) cs)
      passed y [] h = h
      passed y (c ∷ cs) (inl h) = inl h
      passed y (c ∷ cs) (inr h) = inr (passed y cs h)

      there : (ys : List X) → Contains ys x → Among (λ (c : X × List X). c.0 ≡ x) (choices ys)
      there [] (k, low, is) = absurd (omega arith)
      there (y ∷ ys) (zero, low, is) = inl is
      there (y ∷ ys) (suc k, low, is) = inr (passed y (choices ys) (there ys (k, omega arith, is)))
