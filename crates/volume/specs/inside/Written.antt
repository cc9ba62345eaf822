-- Where something may have been written since all was zeros.
use Rattle.std.specs.Prelude.{◌≡◌, ◌<◌, ◌≤◌, ◌+◌, ◌/◌, ◌||◌, ℕ, Bool, List, length, get_or, IsTrue, IsFalse}
use Rattle.std.specs.Ordering.{nat_cmp}
use Rattle.std.specs.BTreeSet.{BTreeSet, contains}
use Rattle.volume.specs.declared.written.Written.{Written}

-- whether something may have been written to a chunk
abbrev pub may_be_written : Written → ℕ → Bool
may_be_written w chunk = w.is_lost || contains nat_cmp w.chunks chunk

-- all bytes outside of those chunks are zeros
abbrev pub HoldsZeros : Written → List ℕ → Type 0
HoldsZeros w bytes = (i : ℕ) → i < length bytes → IsFalse (may_be_written w (i / 32768)) → get_or bytes i 0 ≡ 0

-- the set has all numbers from one to before another, and what it had
pub record HasAll (old : BTreeSet ℕ) (first end : ℕ) (new : BTreeSet ℕ) : Type 0 where
  pub added : (k : ℕ) → first ≤ k → k < end → IsTrue (contains nat_cmp new k)
  pub kept : (k : ℕ) → IsTrue (contains nat_cmp old k) → IsTrue (contains nat_cmp new k)

-- the set's first number from this one on
pub record IsFirstFrom (chunks : BTreeSet ℕ) (from first : ℕ) : Type 0 where
  pub from_there : from ≤ first
  pub none_before : (k : ℕ) → from ≤ k → k < first → IsFalse (contains nat_cmp chunks k)

-- these bytes are in chunks to which nothing was written
abbrev pub AreUntouched : Written → ℕ → ℕ → Type 0
AreUntouched w offset count = (i : ℕ) → offset ≤ i → i < offset + count → IsFalse (may_be_written w (i / 32768))
