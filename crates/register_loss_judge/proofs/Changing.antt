-- What is held behind a change, as the judge keeps it.
use Rattle.std.proofs.Common.{◌≡◌, ℕ, Bool, true, false, cond, List, [], ◌∷◌, ◌++◌, refl, ◌∙◌, ap, map, nat_lt}
use Rattle.std.specs.List.{filter}
use Rattle.std.proofs.lemmas.List.{map-append}
use Rattle.loss.specs.Held.{Puts, Syncs, OlderOf, changed, left, outlives, overwritten, value_of}
use Rattle.register_loss_judge.specs.declared.values.Older.{Older}
use Rattle.register_loss_judge.specs.inside.States.{holding, older_of, older_value, outdated, stays}

as_outdated : (next : ℕ) (vs : List ℕ) → map older_of (map (outdated next) vs) ≡ map (overwritten next) vs
as_outdated next [] = refl
as_outdated next (v ∷ vs) = ap (λ (os : List (OlderOf ℕ)). overwritten next v ∷ os) (as_outdated next vs)

as_values : (os : List Older) → map older_value os ≡ map value_of (map older_of os)
as_values [] = refl
as_values (o ∷ os) = ap (λ (vs : List ℕ). o.value ∷ vs) (as_values os)

as_staying : (flush : ℕ) (os : List Older) → map older_of (filter (stays flush) os) ≡ filter (outlives flush) (map older_of os)
as_staying flush [] = refl
as_staying flush (o ∷ os) = by_age (nat_lt flush o.behind) (as_staying flush os)
  where
    by_age : (b : Bool) → map older_of (filter (stays flush) os) ≡ filter (outlives flush) (map older_of os)
        → map older_of (cond b (o ∷ filter (stays flush) os) (filter (stays flush) os)) ≡ cond b (older_of o ∷ filter (outlives flush) (map older_of os)) (filter (outlives flush) (map older_of os))
    by_age true rest = ap (λ (xs : List (OlderOf ℕ)). older_of o ∷ xs) rest
    by_age false rest = rest

pub held_alike : (now now' : List ℕ) (older older' : List Older) → now' ≡ now → older' ≡ older → holding now' older' ≡ holding now older
held_alike now now' older older' n o = ap (λ (vs : List ℕ). holding vs older') n ∙ ap (λ (os : List Older). holding now os) o

pub put_held : (next value : ℕ) (now now' : List ℕ) (older older' : List Older) → now' ≡ value ∷ [] → older' ≡ older ++ map (outdated next) now → holding now' older' ≡ changed next (Puts value) (holding now older)
put_held next value now now' older older' n o =
    held_alike (value ∷ []) now' (older ++ map (outdated next) now) older' n o
    ∙ ap (λ (os : List (OlderOf ℕ)). record { now = value ∷ []; older = os }) (map-append older_of older (map (outdated next) now) ∙ ap (λ (os : List (OlderOf ℕ)). map older_of older ++ os) (as_outdated next now))

pub left_held : (now all : List ℕ) (older : List Older) → all ≡ now ++ map older_value older → all ≡ left (holding now older)
left_held now all older a = a ∙ ap (λ (vs : List ℕ). now ++ vs) (as_values older)

pub synced_held : (flush : ℕ) (now now' : List ℕ) (older older' : List Older) → now' ≡ now → older' ≡ filter (stays flush) older → holding now' older' ≡ changed 0 (Syncs flush) (holding now older)
synced_held flush now now' older older' n o =
    held_alike now now' (filter (stays flush) older) older' n o ∙ ap (λ (os : List (OlderOf ℕ)). record { now = now; older = os }) (as_staying flush older)
