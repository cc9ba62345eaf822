-- What is seen of a session, one after the other.
use Rattle.std.proofs.Common.{◌≡◌, ◌<◌, ◌≤◌, ℕ, zero, suc, ◌+◌, ◌-◌, Bool, true, false, List, [], ◌∷◌, ◌++◌, ◌⊎◌, inl, inr, refl, sym, ◌∙◌, ap, arith, append-nil, append_assoc, get_or, length, take, drop, min, ltb}
use Rattle.std.proofs.lemmas.Bool.{ltb-true, ltb-false}
use Rattle.register_loss.specs.declared.Sight.{Sight}
use Rattle.history_loss_kept.specs.declared.Shared.{Shared}
use Rattle.history_loss_kept.specs.Kept.{all_shared, merged, own_sights, shared_sights}
use Rattle.history_loss_sector.specs.declared.filling.Marked.{Marked}
use Rattle.history_loss_sector.specs.declared.merging.SharedAt.{SharedAt}
use Rattle.history_loss_sector.specs.Seen.{shared_in}
use Rattle.history_loss_sector.specs.inside.Entries.{own_in}

-- LISTS

pub drop_next : {X : Type 0} (xs : List X) (i : ℕ) (d : X) → i < length xs → drop i xs ≡ get_or xs i d ∷ drop (i + 1) xs
drop_next [] i d low = absurd (omega arith)
drop_next (x ∷ xs) zero d low = refl
drop_next (x ∷ xs) (suc i) d low =
    let e : suc (i + 1) ≡ suc i + 1 = omega arith in
    drop_next xs i d (omega arith) ∙ ap (λ n. get_or xs i d ∷ drop n (x ∷ xs)) e

pub drop_past : {X : Type 0} (xs : List X) (i : ℕ) → length xs ≤ i → drop i xs ≡ []
drop_past [] zero end = refl
drop_past [] (suc i) end = refl
drop_past (x ∷ xs) zero end = absurd (omega arith)
drop_past (x ∷ xs) (suc i) end = drop_past xs i (omega arith)

pub take_past : {X : Type 0} (xs : List X) (i : ℕ) → length xs ≤ i → take i xs ≡ xs
take_past [] zero end = refl
take_past [] (suc i) end = refl
take_past (x ∷ xs) zero end = absurd (omega arith)
take_past (x ∷ xs) (suc i) end = ap (λ ys. x ∷ ys) (take_past xs i (omega arith))

pub shared_drop : (xs : List SharedAt) (i : ℕ) → shared_in (drop i xs) ≡ drop i (shared_in xs)
shared_drop [] zero = refl
shared_drop [] (suc i) = refl
shared_drop (x ∷ xs) zero = refl
shared_drop (x ∷ xs) (suc i) = shared_drop xs i

pub shared_take : (xs : List SharedAt) (i : ℕ) → shared_in (take i xs) ≡ take i (shared_in xs)
shared_take [] zero = refl
shared_take [] (suc i) = refl
shared_take (x ∷ xs) zero = refl
shared_take (x ∷ xs) (suc i) = ap (λ ys. x.shared ∷ ys) (shared_take xs i)

pub shared_length : (xs : List SharedAt) → length (shared_in xs) ≡ length xs
shared_length [] = refl
shared_length (x ∷ xs) = ap suc (shared_length xs)

min_split : (a b m : ℕ) → m ≡ min a b → (m ≡ a) ⊎ ((m ≡ b) × (b ≤ a))
min_split a b m e = by (ltb a b) refl
  where
    by : (t : Bool) → ltb a b ≡ t → (m ≡ a) ⊎ ((m ≡ b) × (b ≤ a))
    by true t = let low : a < b = ltb-true a b t in inl (omega (arith, e, low))
    by false t = let high : b ≤ a = ltb-false a b t in inr (omega (arith, e, high), high)

drop_min : (xs : List SharedAt) (i m : ℕ) → (m ≡ i) ⊎ ((m ≡ length xs) × (length xs ≤ i)) → drop m xs ≡ drop i xs
drop_min xs i m (inl e) = ap (λ k. drop k xs) e
drop_min xs i m (inr (e, end)) = drop_past xs m (omega (arith, e)) ∙ sym (drop_past xs i end)

take_min : (xs : List SharedAt) (i m : ℕ) → (m ≡ i) ⊎ ((m ≡ length xs) × (length xs ≤ i)) → take m xs ≡ take i xs
take_min xs i m (inl e) = ap (λ k. take k xs) e
take_min xs i m (inr (e, end)) = take_past xs m (omega (arith, e)) ∙ sym (take_past xs i end)

pub rest_is : (shared rest : List SharedAt) (taken m : ℕ) → m ≡ min taken (length shared) → rest ≡ drop m shared → shared_in rest ≡ drop taken (shared_in shared)
rest_is shared rest taken m e cut = ap shared_in (cut ∙ drop_min shared taken m (min_split taken (length shared) m e)) ∙ shared_drop shared taken

pub front_is : (rest front : List SharedAt) (behind : List Shared) (count n m : ℕ) → n ≡ count → m ≡ min n (length rest) → front ≡ take m rest → shared_in rest ≡ behind → shared_in front ≡ take count behind
front_is rest front behind count n m same e cut is =
    ap shared_in (cut ∙ take_min rest n m (min_split n (length rest) m e)) ∙ shared_take rest n ∙ ap (λ xs. take n xs) is ∙ ap (λ k. take k behind) same

-- WHAT ALL SECTORS SEE

module _ (all : Bool) where
  pub shared_more : (shared : List SharedAt) (start old new : List Sight) (i : ℕ) (one : SharedAt) → i < length shared → one ≡ get_or shared i one → new ≡ old ++ shared_sights all one.shared
      → old ++ all_shared all (shared_in (drop i shared)) ≡ start ++ all_shared all (shared_in shared)
      → new ++ all_shared all (shared_in (drop (i + 1) shared)) ≡ start ++ all_shared all (shared_in shared)
  shared_more shared start old new i one low is sees h =
      ap (λ xs. xs ++ all_shared all (shared_in (drop (i + 1) shared))) sees
      ∙ append_assoc old (shared_sights all one.shared) (all_shared all (shared_in (drop (i + 1) shared)))
      ∙ ap (λ m. old ++ all_shared all (shared_in (m ∷ drop (i + 1) shared))) is
      ∙ sym (ap (λ ms. old ++ all_shared all (shared_in ms)) (drop_next shared i one low))
      ∙ h

  pub shared_whole : (shared : List SharedAt) (start new : List Sight) (i : ℕ) → length shared ≤ i
      → new ++ all_shared all (shared_in (drop i shared)) ≡ start ++ all_shared all (shared_in shared) → new ≡ start ++ all_shared all (shared_in shared)
  shared_whole shared start new i end h = sym (append-nil new) ∙ ap (λ ms. new ++ all_shared all (shared_in ms)) (sym (drop_past shared i end)) ∙ h

  -- A SESSION

  pub merged_more : (own : List Marked) (shared between : List Shared) (start old new : List Sight) (taken i : ℕ) (one : Marked) → i < length own → one ≡ get_or own i one
      → between ≡ take (one.own.behind - taken) (drop taken shared) → new ≡ old ++ (all_shared all between ++ own_sights one.own.wait)
      → old ++ merged all taken (own_in (drop i own)) shared ≡ start ++ merged all 0 (own_in own) shared
      → new ++ merged all one.own.behind (own_in (drop (i + 1) own)) shared ≡ start ++ merged all 0 (own_in own) shared
  merged_more own shared between start old new taken i one low is cut sees h =
      let before = all_shared all between in
      let alone = own_sights one.own.wait in
      let later = merged all one.own.behind (own_in (drop (i + 1) own)) shared in
      ap (λ xs. xs ++ later) sees
      ∙ append_assoc old (before ++ alone) later
      ∙ ap (λ xs. old ++ xs) (append_assoc before alone later)
      ∙ ap (λ xs. old ++ (all_shared all xs ++ (alone ++ later))) cut
      ∙ ap (λ m. old ++ merged all taken (own_in (m ∷ drop (i + 1) own)) shared) is
      ∙ sym (ap (λ ms. old ++ merged all taken (own_in ms) shared) (drop_next own i one low))
      ∙ h

  pub merged_whole : (own : List Marked) (shared rest : List Shared) (start old new : List Sight) (taken i : ℕ) → length own ≤ i → rest ≡ drop taken shared → new ≡ old ++ all_shared all rest
      → old ++ merged all taken (own_in (drop i own)) shared ≡ start ++ merged all 0 (own_in own) shared → new ≡ start ++ merged all 0 (own_in own) shared
  merged_whole own shared rest start old new taken i end cut sees h =
      sees
      ∙ ap (λ xs. old ++ all_shared all xs) cut
      ∙ ap (λ ms. old ++ merged all taken (own_in ms) shared) (sym (drop_past own i end))
      ∙ h
