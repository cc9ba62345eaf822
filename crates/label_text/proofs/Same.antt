-- Bytes that are all one byte, one after the other.
use Rattle.std.proofs.Common.{◌≡◌, ◌<◌, ◌==◌, ◌+◌, ◌&&◌, ℕ, Bool, true, false, List, All, IsTrue, length, take, get_or, refl}
use borrow.Author.Tests.{eqb-true}
use Rattle.std.proofs.lemmas.List.Elements.{All-more}

never : IsTrue false → ⊥
never holds = absurd (cc (holds))

-- bytes that are the same so far, and one more
pub one_same : (byte : ℕ) (bytes : List ℕ) (i : ℕ) (d : ℕ) (so_far : Bool) → i < length bytes → (IsTrue so_far → All (λ b. b ≡ byte) (take i bytes))
    → IsTrue (so_far && (get_or bytes i d == byte)) → All (λ b. b ≡ byte) (take (i + 1) bytes)
one_same byte bytes i d false inside before = λ both. absurd (never both)
one_same byte bytes i d true inside before = λ both. All-more (λ b. b ≡ byte) bytes i d inside (before refl) (eqb-true (get_or bytes i d) byte both)
