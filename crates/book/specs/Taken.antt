-- What was booked of a journal's entries.
use Rattle.std.specs.Prelude.{◌≡◌, ℕ, suc, List, [], ◌∷◌, ◌++◌, length, map, Some, slice_get}
use Rattle.sector_journal.specs.declared.acted.Entered.{Entered}

-- these entries, numbered from this number on
abbrev pub numbered_from : {A : Type 0} → ℕ → List A → List (ℕ × A)
numbered_from number [] = []
numbered_from number (x ∷ xs) = (number, x) ∷ numbered_from (suc number) xs

-- the entries of claims
abbrev pub entries_claimed : List (ℕ × Entered) → List Entered
entries_claimed claims = map (λ c. c.1) claims

-- these are the first of all entries
pub record BeginsWith (all first : List Entered) : Type 0 where
  pub rest : List Entered
  pub is : all ≡ first ++ rest

-- one more entry was booked: the next
pub record TakesNext (all old new : List Entered) : Type 0 where
  pub next : Entered
  pub there : slice_get all (length old) ≡ Some next
  pub after : new ≡ old ++ next ∷ []
