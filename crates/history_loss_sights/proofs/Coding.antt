-- What a sector holds, with numbers for its bytes.
use Rattle.std.proofs.Common.{◌≡◌, inl, inr, ℕ, Bool, true, false, cond, List, [], ◌∷◌, ◌++◌, refl, sym, ◌∙◌, ap, map, nat_lt}
use Rattle.std.specs.List.{filter}
use Rattle.std.proofs.lemmas.List.{map-append}
use Rattle.loss.specs.Held.{Change, ChangeOf, Puts, Secures, Tries, Syncs, Doubts, Held, HeldOf, IsOneOf, OlderOf, changed, left, outlives, overwritten, value_of}

pub one_map : {X Y : Type 0} (f : X → Y) (x : X) (xs : List X) → IsOneOf x xs → IsOneOf (f x) (map f xs)
one_map f x [] h = absurd h
one_map f x (y ∷ xs) (inl e) = inl (ap f e)
one_map f x (y ∷ xs) (inr h) = inr (one_map f x xs h)

module _ (code : List ℕ → ℕ) where
  abbrev pub coded_older : OlderOf (List ℕ) → OlderOf ℕ
  coded_older o = record { value = code o.value; behind = o.behind }

  abbrev pub coded : Held → HeldOf ℕ
  coded h = record { now = map code h.now; older = map coded_older h.older }

  abbrev pub coded_change : Change → ChangeOf ℕ
  coded_change (Puts v) = Puts (code v)
  coded_change (Secures v) = Secures (code v)
  coded_change (Tries v) = Tries (code v)
  coded_change (Syncs n) = Syncs n
  coded_change Doubts = Doubts

  coded_new : (n : ℕ) (vs : List (List ℕ)) → map (overwritten n) (map code vs) ≡ map coded_older (map (overwritten n) vs)
  coded_new n [] = refl
  coded_new n (v ∷ vs) = ap (λ (os : List (OlderOf ℕ)). overwritten n (code v) ∷ os) (coded_new n vs)

  coded_values : (os : List (OlderOf (List ℕ))) → map value_of (map coded_older os) ≡ map code (map value_of os)
  coded_values [] = refl
  coded_values (o ∷ os) = ap (λ (vs : List ℕ). code o.value ∷ vs) (coded_values os)

  coded_kept : (flush : ℕ) (os : List (OlderOf (List ℕ))) → filter (outlives flush) (map coded_older os) ≡ map coded_older (filter (outlives flush) os)
  coded_kept flush [] = refl
  coded_kept flush (o ∷ os) = by_age (nat_lt flush o.behind) (coded_kept flush os)
    where
      by_age : (b : Bool) → filter (outlives flush) (map coded_older os) ≡ map coded_older (filter (outlives flush) os)
          → cond b (coded_older o ∷ filter (outlives flush) (map coded_older os)) (filter (outlives flush) (map coded_older os)) ≡ map coded_older (cond b (o ∷ filter (outlives flush) os) (filter (outlives flush) os))
      by_age true rest = ap (λ (xs : List (OlderOf ℕ)). coded_older o ∷ xs) rest
      by_age false rest = rest

  pub coded_left : (h : Held) → left (coded h) ≡ map code (left h)
  coded_left h = ap (λ (vs : List ℕ). map code h.now ++ vs) (coded_values h.older) ∙ sym (map-append code h.now (map value_of h.older))

  pub coded_changed : (n : ℕ) (change : Change) (h : Held) → changed n (coded_change change) (coded h) ≡ coded (changed n change h)
  coded_changed n (Puts v) h =
      ap (λ (os : List (OlderOf ℕ)). record { now = code v ∷ []; older = os })
      (ap (λ (os : List (OlderOf ℕ)). map coded_older h.older ++ os) (coded_new n h.now) ∙ sym (map-append coded_older h.older (map (overwritten n) h.now)))
  coded_changed n (Secures v) h = refl
  coded_changed n (Tries v) h = ap (λ (vs : List ℕ). record { now = vs; older = map coded_older h.older }) (sym (map-append code h.now (v ∷ [])))
  coded_changed n (Syncs k) h = ap (λ (os : List (OlderOf ℕ)). record { now = map code h.now; older = os }) (coded_kept k h.older)
  coded_changed n Doubts h = ap (λ (vs : List ℕ). record { now = vs; older = [] }) (coded_left h)
