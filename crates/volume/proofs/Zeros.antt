-- Bytes that are zeros outside of the chunks to which something may have been written.
use Rattle.std.proofs.Common.{◌≡◌, ◌<◌, ◌≤◌, ◌⊎◌, inl, inr, ℕ, ◌+◌, ◌-◌, ◌/◌, ◌%◌, Bool, true, false, List, refl, sym, ◌∙◌, ap, subst, arith, length, get_or, replicate, slice_range, drop, IsTrue, IsFalse}
use Rattle.std.proofs.lemmas.List.{get_or-drop, get_or-replicate, get_or-take, get_or_default, length-drop, length-replicate, length-take}
use Rattle.std.proofs.lemmas.Grind.{same_number_lists}
use Rattle.sector.specs.Splice.{splice}
use Rattle.sector.proofs.Splicing.{splice_at}
use Rattle.volume.specs.declared.written.Written.{Written}
use Rattle.volume.specs.inside.Written.{AreUntouched, HoldsZeros, may_be_written}

pub zeros_first : (w : Written) (bytes : List ℕ) → bytes ≡ replicate (length bytes) 0 → HoldsZeros w bytes
zeros_first w bytes all i within free = ap (λ xs. get_or xs i 0) all ∙ get_or-replicate (length bytes) i 0 0 within

-- what was marked stays marked
abbrev pub Keeps : Written → Written → Type 0
Keeps old new = (k : ℕ) → IsTrue (may_be_written old k) → IsTrue (may_be_written new k)

-- the bytes of a write are marked, of so many in all
abbrev pub Marks : Written → ℕ → ℕ → ℕ → Type 0
Marks w offset count size = (i : ℕ) → offset ≤ i → i < offset + count → i < size → IsTrue (may_be_written w (i / 32768))

free_before : (old new : Bool) → (IsTrue old → IsTrue new) → IsFalse new → IsFalse old
free_before false new keeps free = refl
free_before true new keeps free = absurd (let k : new ≡ true = keeps refl in let f : new ≡ false = free in cc)

pub zeros_kept : (w w' : Written) (bytes : List ℕ) → Keeps w w' → HoldsZeros w bytes → HoldsZeros w' bytes
zeros_kept w w' bytes keeps h i within free = h i within (free_before _ _ (keeps (i / 32768)) free)

not_both : (b : Bool) → IsTrue b → IsFalse b → ⊥
not_both b t f = let k : b ≡ true = t in let l : b ≡ false = f in cc

-- what a write leaves
pub zeros_after : (w w' : Written) (bytes : List ℕ) (offset : ℕ) (others : List ℕ) (size : ℕ) → offset + length others ≤ length bytes → length bytes ≤ size
    → Keeps w w' → Marks w' offset (length others) size → HoldsZeros w bytes → HoldsZeros w' (splice bytes offset others)
zeros_after w w' bytes offset others size fits inside keeps marks h i within free =
    splice_at (λ k x. IsFalse (may_be_written w' (k / 32768)) → x ≡ 0) bytes offset others fits
    (λ k d low unmarked. get_or_default bytes k d 0 low ∙ zeros_kept w w' bytes keeps h k low unmarked)
    (λ k d low unmarked. absurd (not_both _ (marks (offset + k) (omega arith) (omega arith) (omega arith)) unmarked))
    i 0 within free

-- a run where nothing was written
pub zeros_there : (w : Written) (bytes : List ℕ) (offset count : ℕ) → HoldsZeros w bytes → offset + count ≤ length bytes → AreUntouched w offset count
    → slice_range bytes offset (offset + count) ≡ replicate count 0
zeros_there w bytes offset count h inside free =
    let n : offset + count - offset ≡ count = omega arith in
    let long : length (slice_range bytes offset (offset + count)) ≡ count = simp (length-take, length-drop) (omega arith) in
    same_number_lists (slice_range bytes offset (offset + count)) (replicate count 0) (long ∙ sym (length-replicate count 0)) (λ k low.
    get_or-take (offset + count - offset) (drop offset bytes) k 0 (omega arith)
    ∙ get_or-drop offset bytes k 0
    ∙ h (offset + k) (omega arith) (free (offset + k) (omega arith) (omega arith))
    ∙ sym (get_or-replicate count k 0 0 (omega arith)))

pub whole_sectors : (size offset count : ℕ) → (size ≡ 512) ⊎ (size ≡ 4096) → offset % size ≡ 0 → (offset + count) % 32768 ≡ 0 → count % size ≡ 0
whole_sectors size offset count (inl e) begins ends = subst (λ s. offset % s ≡ 0 → count % s ≡ 0) (sym e) (λ b. omega (arith, b, ends)) begins
whole_sectors size offset count (inr e) begins ends = subst (λ s. offset % s ≡ 0 → count % s ≡ 0) (sym e) (λ b. omega (arith, b, ends)) begins
