-- What a reservation makes: the chunks of its extent, and no others.
use Rattle.std.proofs.Common.{◌≡◌, ◌≢◌, ℕ, ◌/◌, ◌⊎◌, inl, inr, List, [], length, map, None, Option, Some, IsSome, Result, Ok, Err, IsOk, OnOk, OnErr, arith, refl, sym, ap, ◌∙◌, subst}
use Rattle.std.proofs.lemmas.Bool.{cases_eq}
use Rattle.std.specs.HashMap.{IsEmpty}
use Rattle.sector.specs.declared.Extent.{Extent}
use Rattle.sector.specs.Extents.{IsIn}
use Rattle.disk.specs.declared.chunks.Chunks.{Chunks}
use Rattle.disk.specs.Sparse.{ByNumber, held}
use Rattle.disk.specs.inside.Sparse.{HoldsSame, PutsZeros}
use Rattle.disk.specs.inside.SparseDisk.{AreThere, HasPartOf, IsThere, Makes, MakesOf, MakesOne}
use Rattle.disk.proofs.Chunked.{held-empty}

-- zeros at one number make that chunk alone
pub made_one : (size number : ℕ) (old new : ByNumber) → PutsZeros size number old new
    → (other : ℕ) → IsSome (held new other) → IsSome (held old other) ⊎ (other ≡ number)
made_one size number old new puts other there = elim (cases_eq other number) [
  | inl same ↦ inr same
  | inr apart ↦ inl (subst IsSome (puts.others other apart) there)
]

-- and where nothing was put none
pub made_none : (number : ℕ) (old new : ByNumber) → HoldsSame old new
    → (other : ℕ) → IsSome (held new other) → IsSome (held old other) ⊎ (other ≡ number)
made_none number old new same other there = inl (subst IsSome (same other) there)

-- one more chunk of the extent
pub made_more : (extent : Extent) (first : ℕ) (old mid new : Chunks) → IsIn first extent → MakesOf extent old mid → MakesOne (first / 64) mid new
    → MakesOf extent old new
made_more extent first old mid new inside before one number there = by (one number there)
  where
    by : IsThere mid number ⊎ (number ≡ first / 64) → IsThere old number ⊎ HasPartOf extent number
    by (inl was) = before number was
    by (inr is) = inr (first, inside, sym is)

-- where no chunk was there only those of the extent are
pub made_only : (extent : Extent) (blank made : Chunks) → IsEmpty blank.by_number → MakesOf extent blank made
    → (number : ℕ) → IsThere made number → HasPartOf extent number
made_only extent blank made none makes number there = by (makes number there)
  where
    not_there : (found : Option (List ℕ)) → found ≡ None → IsSome found → ⊥
    not_there None e some = cc (some)
    not_there (Some bytes) e some = cc (e)

    by : IsThere blank number ⊎ HasPartOf extent number → HasPartOf extent number
    by (inl was) = absurd (not_there (held blank.by_number number) (held-empty blank.by_number none number) was)
    by (inr part) = part
