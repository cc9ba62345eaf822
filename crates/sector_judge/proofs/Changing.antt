-- What is known of a sector after a change of the lists that stand for it.
use Rattle.std.proofs.Common.{◌≡◌, ℕ, ◌<◌, ◌+◌, suc, length, get_or, take, arith, Bool, List, [], ◌∷◌, ◌++◌, map, refl, sym, ap, ◌∙◌, nat_lt, cond, true, false}
use Rattle.std.specs.List.{filter, filter_map}
use Rattle.std.proofs.Math.Seq.{take-suc}
use Rattle.std.proofs.lemmas.List.Elements.{filter_map-append}
use Rattle.std.proofs.lemmas.List.{map-append}
use Rattle.sector_judge.specs.declared.candidates.Candidate.{Candidate}
use Rattle.sector_judge.specs.declared.candidates.Candidate.TheVariants.{Told}
use Rattle.sector_judge.specs.declared.candidates.Older.{Older}
use Rattle.loss.specs.Held.{OlderOf, Puts, Syncs, Doubts, changed, outlives, overwritten, value_of}
use Rattle.sector_judge.specs.Known.{Knowledge, told_of, with_held}
use Rattle.sector_judge.specs.inside.Lists.{as_held, as_older, older_value, outdated, stays}

abbrev pub shown : Bool → List ℕ → List Candidate → List Older → Knowledge
shown any firsts current older = record { any = any; firsts = firsts; held = as_held current older }

as_outdated : (next : ℕ) (cs : List Candidate) → map as_older (map (outdated next) cs) ≡ map (overwritten next) cs
as_outdated next [] = refl
as_outdated next (c ∷ cs) = ap (λ (os : List (OlderOf Candidate)). overwritten next c ∷ os) (as_outdated next cs)

as_values : (os : List Older) → map older_value os ≡ map value_of (map as_older os)
as_values [] = refl
as_values (o ∷ os) = ap (λ (cs : List Candidate). o.value ∷ cs) (as_values os)

as_staying : (flush : ℕ) (os : List Older) → map as_older (filter (stays flush) os) ≡ filter (outlives flush) (map as_older os)
as_staying flush [] = refl
as_staying flush (o ∷ os) = by_age (nat_lt flush o.behind) (as_staying flush os)
  where
    by_age : (b : Bool) → map as_older (filter (stays flush) os) ≡ filter (outlives flush) (map as_older os)
        → map as_older (cond b (o ∷ filter (stays flush) os) (filter (stays flush) os)) ≡ cond b (as_older o ∷ filter (outlives flush) (map as_older os)) (filter (outlives flush) (map as_older os))
    by_age true rest = ap (λ (xs : List (OlderOf Candidate)). as_older o ∷ xs) rest
    by_age false rest = rest

module _ (any : Bool) (firsts : List ℕ) (current : List Candidate) (older : List Older) (k : Knowledge) (is : shown any firsts current older ≡ k) where
  pub put_shown : (next value : ℕ) (current' : List Candidate) (older' : List Older) → older' ≡ older ++ map (outdated next) current → current' ≡ Told value ∷ []
      → shown any firsts current' older' ≡ with_held k (changed next (Puts (Told value)) k.held)
  put_shown next value current' older' o c =
      ap (λ (cs : List Candidate). shown any firsts cs older') c
      ∙ ap (λ (os : List (OlderOf Candidate)). record { any = any; firsts = firsts; held = record { now = Told value ∷ []; older = os } })
      (ap (λ (os : List Older). map as_older os) o ∙ map-append as_older older (map (outdated next) current) ∙ ap (λ (os : List (OlderOf Candidate)). map as_older older ++ os) (as_outdated next current))
      ∙ ap (λ (k : Knowledge). with_held k (changed next (Puts (Told value)) k.held)) is

  pub synced_shown : (flush : ℕ) (older' : List Older) → older' ≡ filter (stays flush) older → shown any firsts current older' ≡ with_held k (changed 0 (Syncs flush) k.held)
  synced_shown flush older' o =
      ap (λ (os : List (OlderOf Candidate)). record { any = any; firsts = firsts; held = record { now = current; older = os } }) (ap (λ (os : List Older). map as_older os) o ∙ as_staying flush older)
      ∙ ap (λ (k : Knowledge). with_held k (changed 0 (Syncs flush) k.held)) is

  pub doubted_shown : (current' : List Candidate) (older' : List Older) → current' ≡ current ++ map older_value older → older' ≡ [] → shown any firsts current' older' ≡ with_held k (changed 0 Doubts k.held)
  doubted_shown current' older' c o =
      ap (λ (os : List Older). shown any firsts current' os) o
      ∙ ap (λ (cs : List Candidate). record { any = any; firsts = firsts; held = record { now = cs; older = [] } }) (c ∙ ap (λ (cs : List Candidate). current ++ cs) (as_values older))
      ∙ ap (λ (k : Knowledge). with_held k (changed 0 Doubts k.held)) is

pub told_more : (values values' : List ℕ) (cs : List Candidate) (index : ℕ) (d : Candidate) → index < length cs → values ≡ filter_map told_of (take index cs) → values' ≡ values ++ filter_map told_of (get_or cs index d ∷ [])
    → values' ≡ filter_map told_of (take (index + 1) cs)
told_more values values' cs index d low so_far more =
    let e : index + 1 ≡ suc index = omega arith in
    more
    ∙ ap (λ (vs : List ℕ). vs ++ filter_map told_of (get_or cs index d ∷ [])) so_far
    ∙ sym (filter_map-append told_of (take index cs) (get_or cs index d ∷ []))
    ∙ sym (ap (λ (cs : List Candidate). filter_map told_of cs) (ap (λ (n : ℕ). take n cs) e ∙ take-suc cs index d low))
